use Rattle.std.proofs.Common.{◌≡◌, ◌≢◌, ℕ, ◌<◌, true, false, Some, [], ◌∷◌, refl, sym, ◌∙◌, arith}
use Rattle.std.proofs.lemmas.Bool.Decides.{nat_tests}
use Rattle.ell_word.specs.declared.update.State.TheVariants as state
use Rattle.ell_layout.specs.Words.{Words}
use Rattle.ell_core.specs.state.Machine.{Machine}
use Rattle.ell_core.specs.tree.Tree.{Reached}
use Rattle.ell_core.specs.soundness.Sound.{NamesAreSound, FlagsAreSound}
use Rattle.ell_core.specs.soundness.UnsoundFlags.{BreaksNames, node_not_claimed, number_left_out, card_not_claimed, BreaksFlags, flag_left_standing, flag_of_another, flag_not_won, iflag_elsewhere, dflag_elsewhere, mark_elsewhere}
use Rattle.ell_core.proofs.lemmas.following.small_states.Trees.{four_reached}

-- a state whose names are unsound is unsound
breaks_names : (m : Machine) → ¬ NamesAreSound m.words → BreaksNames m
breaks_names m broken = (broken, λ sound. broken sound.names)

-- a state whose flags are unsound is unsound
breaks_flags : (m : Machine) → ¬ FlagsAreSound m → BreaksFlags m
breaks_flags m broken = (broken, λ sound. broken sound.flags)

-- the root is reached
root_reached : (w : Words) → Reached w 0
root_reached w = record { path = []; leads = refl }

not_less : ¬ (1 < 1)
not_less h = omega arith

-- node 4 is of card 1, and that is the next one
pub nodes_broken : BreaksNames node_not_claimed
nodes_broken = breaks_names node_not_claimed (λ names. not_less (names.nodes 4 (four_reached node_not_claimed.words refl)))

-- 7 is the number that card 1 leaves out
pub numbers_broken : BreaksNames number_left_out
numbers_broken = breaks_names number_left_out
    (λ names. names.numbers 7 (record { path = false ∷ []; leads = (refl, refl) }) refl)

-- the root's update word names card 1, and that is the next one
pub updates_broken : BreaksNames card_not_claimed
updates_broken = breaks_names card_not_claimed (λ names. not_less (names.updates 0 (root_reached card_not_claimed.words) refl))

-- nobody has a flagged card in hand
no_hands : (i : ℕ) → (flag_left_standing.worker i).flagged ≡ false
no_hands i = grind (arith, nat_tests)

-- card 1's flag stands, and nobody has it in hand
pub left_broken : BreaksFlags flag_left_standing
left_broken = breaks_flags flag_left_standing (λ flags.
    let it = (flags 0 (root_reached flag_left_standing.words) refl (λ e. let f : state.IFlag ≡ state.Clean = e in cc)).in_hand in
    let h : false ≡ true = sym (no_hands it.worker) ∙ it.flagged in cc)

-- nobody has card 1 in hand
no_card_one : (i : ℕ) → (flag_of_another.worker i).card ≢ Some 1
no_card_one i = grind (arith, nat_tests)

-- card 1's flag stands, and another is in hand
pub another_broken : BreaksFlags flag_of_another
another_broken = breaks_flags flag_of_another (λ flags.
    let it = (flags 0 (root_reached flag_of_another.words) refl (λ e. let f : state.IFlag ≡ state.Clean = e in cc)).in_hand in
    no_card_one it.worker it.holds)

-- nobody's card has won its flag
none_flagged : (i : ℕ) → (flag_not_won.worker i).flagged ≡ false
none_flagged i = grind (arith, nat_tests)

-- card 1's flag stands, and it did not win it
pub not_won_broken : BreaksFlags flag_not_won
not_won_broken = breaks_flags flag_not_won (λ flags.
    let it = (flags 0 (root_reached flag_not_won.words) refl (λ e. let f : state.IFlag ≡ state.Clean = e in cc)).in_hand in
    let h : false ≡ true = sym (none_flagged it.worker) ∙ it.flagged in cc)

-- an insert's flag stands at node 0, and belongs at node 4
pub iflag_broken : BreaksFlags iflag_elsewhere
iflag_broken = breaks_flags iflag_elsewhere (λ flags.
    let h : ◌≡◌ {A = ℕ} 4 0 =
    (flags 0 (root_reached iflag_elsewhere.words) refl (λ e. let f : state.IFlag ≡ state.Clean = e in cc)).place in omega arith)

-- a delete's flag stands at node 4, and belongs at node 0
pub dflag_broken : BreaksFlags dflag_elsewhere
dflag_broken = breaks_flags dflag_elsewhere (λ flags.
    let h : ◌≡◌ {A = ℕ} 0 4 =
    (flags 4 (four_reached dflag_elsewhere.words refl) refl (λ e. let f : state.DFlag ≡ state.Clean = e in cc)).place in omega arith)

-- a mark stands at node 0, and belongs at node 4
pub mark_broken : BreaksFlags mark_elsewhere
mark_broken = breaks_flags mark_elsewhere (λ flags.
    let h : ◌≡◌ {A = ℕ} 4 0 =
    (flags 0 (root_reached mark_elsewhere.words) refl (λ e. let f : state.Mark ≡ state.Clean = e in cc)).place in omega arith)
