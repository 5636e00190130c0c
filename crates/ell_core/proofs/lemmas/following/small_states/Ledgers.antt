use Rattle.std.proofs.Common.{◌≡◌, ◌≢◌, ℕ, ◌≤◌, true, false, Some, None, unwrap_or, [], ◌∷◌, refl, sym, ap, ◌∙◌, arith}
use Rattle.std.proofs.lemmas.Bool.Decides.{nat_tests}
use Rattle.ell_ops.specs.declared.op.Op.TheVariants.{Find}
use Rattle.ell_core.specs.declared.fact.Fact.TheVariants.{IFlagged}
use Rattle.ell_core.specs.state.Machine.{Machine}
use Rattle.ell_layout.specs.Start.{opening_words}
use Rattle.ell_layout.specs.Words.{IsLeaf}
use Rattle.ell_core.specs.tree.Tree.{OnWalk, here, next, Finds, IsTreePair}
use Rattle.ell_word.specs.Node.{infinity1}
use Rattle.ell_core.specs.soundness.Sound.{LedgersAreSound, WalksAreSound, StrangersAreNobody}
use Rattle.ell_core.specs.soundness.SmallTrees.{five}
use Rattle.ell_core.specs.statements.Effects.{value_in}
use Rattle.ell_core.specs.soundness.Unsound.{BreaksLedgers, key_owned_twice, key_without_owner, key_missing_in_ledger, key_kept_in_ledger, key_with_other_value, BreaksSearches, key_found_too_early, key_not_found, search_astray, BreaksStrangers, key_of_stranger, busy_stranger, knowing_stranger}
use Rattle.ell_core.proofs.lemmas.opening.Ranges.{opening_ordered, opening_empty}
use Rattle.ell_core.proofs.lemmas.tree.Blocks.{no_block-plain}
use Rattle.ell_core.proofs.lemmas.tree.Reached.{tree_key_leads}
use Rattle.ell_core.specs.declared.view.Entry.TheVariants.{Present, Absent}

-- a state whose ledgers are unsound is unsound
breaks_ledgers : (m : Machine) → ¬ LedgersAreSound m → BreaksLedgers m
breaks_ledgers m broken = (broken, λ sound. broken sound.ledgers)

-- a state whose searches are unsound is unsound
breaks_searches : (m : Machine) → ¬ WalksAreSound m → BreaksSearches m
breaks_searches m broken = (broken, λ sound. broken sound.walks)

one_is_not_two : ◌≢◌ {A = ℕ} 1 2
one_is_not_two e = omega arith

zero_is_not_one : ◌≢◌ {A = ℕ} 0 1
zero_is_not_one e = omega arith

-- node 5 is a leaf
leaf_five : IsLeaf 5
leaf_five e = zero_is_not_one (sym e)

-- two owners of one key
pub twice_broken : BreaksLedgers key_owned_twice
twice_broken = breaks_ledgers key_owned_twice (λ sound. zero_is_not_one
    (sound.one_owner 0 1 5 (λ e. let f : Some Absent ≡ None = e in cc) (λ e. let f : Some Absent ≡ None = e in cc)))

-- key 5 is in the tree with value 50
fifty_there : IsTreePair five 5 50
fifty_there = record {
  leaf = 5;
  reached = record { path = false ∷ false ∷ []; leads = (refl, (refl, refl)) };
  outer = leaf_five;
  has = refl;
  says = refl;
  real = omega arith;
}

-- nobody owns key 5
not_owned : (i : ℕ) → (key_without_owner.worker i).ledger 5 ≡ None
not_owned i = grind (arith, nat_tests)

-- nor is it shared
not_shared_there : (i : ℕ) → (key_without_owner.worker i).shared 5 ≡ false
not_shared_there i = grind (arith, nat_tests)

-- a key of the tree without an owner
pub owned_broken : BreaksLedgers key_without_owner
owned_broken = breaks_ledgers key_without_owner (λ sound. let it = sound.owned 5 (50, fifty_there) (not_shared_there) in it.owns (not_owned it.worker))

-- a key of the tree that is absent in its owner's ledger
pub present_broken : BreaksLedgers key_missing_in_ledger
present_broken = breaks_ledgers key_missing_in_ledger (λ sound.
    let there : Some Absent ≡ Some (Present 50) = (sound.present 0 5 50 (λ e. let f : Some Absent ≡ None = e in cc)).0 fifty_there in cc)

-- a key that is present in the ledger alone: the opening tree has no key
pub kept_broken : BreaksLedgers key_kept_in_ledger
kept_broken = breaks_ledgers key_kept_in_ledger (λ sound.
    let there = (sound.present 0 5 50 (λ e. let f : Some (Present 50) ≡ None = e in cc)).1 refl in
    opening_empty 5 there.real (tree_key_leads opening_words opening_ordered 5 (50, there)))

-- a key that is present in the ledger with another value than its leaf's
pub other_value_broken : BreaksLedgers key_with_other_value
other_value_broken = breaks_ledgers key_with_other_value (λ sound.
    let there : Some (Present 51) ≡ Some (Present 50) = (sound.present 0 5 50 (λ e. let f : Some (Present 51) ≡ None = e in cc)).0 fifty_there in
    let same : ◌≡◌ {A = ℕ} 51 50 = ap (λ o. unwrap_or (value_in o) 0) there in omega arith)

-- a leaf of key 5, which is absent
pub found_broken : BreaksSearches key_found_too_early
found_broken = breaks_searches key_found_too_early (λ sound.
    let found : Finds key_found_too_early.words 5 50 5 = record { leaf = 5; on = here refl; outer = leaf_five; has = refl; says = refl } in
    let there : Some Absent ≡ Some (Present 50) = ((sound 0 (Find 5) 5 refl refl).finds (λ e. let f : Some Absent ≡ None = e in cc) 50).0 found in cc)

-- the walk from leaf 1 stays there
at_one : (x : ℕ) → OnWalk five 5 1 x → x ≡ 1
at_one x (here e) = e
at_one x (next leaf rest) = absurd (zero_is_not_one (sym leaf))

-- a leaf of another key, where key 5 is present
pub missed_broken : BreaksSearches key_not_found
missed_broken = breaks_searches key_not_found (λ sound.
    let found = ((sound 0 (Find 5) 1 refl refl).finds (λ e. let f : Some (Present 50) ≡ None = e in cc) 50).1 refl in
    let h : infinity1 ≡ 5 = sym (ap five.key (at_one found.leaf found.on)) ∙ found.has in omega arith)

after_left : ¬ OnWalk opening_words 5 1 2
after_left (here e) = one_is_not_two (sym e)
after_left (next leaf rest) = zero_is_not_one (sym leaf)

-- no walk for key 5 from the root comes by the right leaf
not_on_walk : ¬ OnWalk opening_words 5 0 2
not_on_walk (here e) = absurd (omega arith)
not_on_walk (next inner rest) = after_left rest

-- a search that stands where the walk for its key does not come by
pub astray_broken : BreaksSearches search_astray
astray_broken = breaks_searches search_astray (λ sound.
    not_on_walk ((sound 0 (Find 5) 2 refl refl).joins 2 (here refl) (record { path = true ∷ []; leads = (refl, refl) }) (no_block-plain opening_words 2 5 refl)))

-- a state with somebody past the last worker is unsound
breaks_strangers : (m : Machine) → ¬ StrangersAreNobody m → BreaksStrangers m
breaks_strangers m broken = (broken, λ sound. broken sound.strangers)

-- there is one worker, worker 0
past : 1 ≤ 1
past = omega arith

-- worker 1 owns key 7
pub owner_broken : BreaksStrangers key_of_stranger
owner_broken = breaks_strangers key_of_stranger (λ strangers. let h : Some Absent ≡ None = ap (λ v. v.ledger 7) (strangers 1 past) in cc)

-- worker 1 has a find in hand
pub busy_broken : BreaksStrangers busy_stranger
busy_broken = breaks_strangers busy_stranger (λ strangers. let h : Some (Find 5) ≡ None = ap (λ v. v.operation) (strangers 1 past) in cc)

-- worker 1 knows a fact
pub knowing_broken : BreaksStrangers knowing_stranger
knowing_broken = breaks_strangers knowing_stranger (λ strangers. let h : true ≡ false = ap (λ v. v.knows (IFlagged 1)) (strangers 1 past) in cc)
