use Rattle.std.proofs.Common.{◌≡◌, ℕ, ◌%◌, ◌<◌, ◌==◌, ◌||◌, ◌&&◌, nat_le, inl, inr, true, not, sym, ap, ◌∙◌, arith}
use Rattle.ell_word.specs.Node.{card, internal, left_leaf, right_leaf}
use Rattle.ell_core.specs.declared.fact.Fact.TheVariants as fact
use Rattle.ell_layout.specs.Words.{Words}
use Rattle.ell_layout.specs.Cards.{is_replace_card, brought_by, brought}
use Rattle.ell_core.specs.history.Stages.{Stage, Stages, Born, is_start, is_delete, is_born, is_node_born, is_changed}
use Rattle.ell_core.specs.history.Invariant.{insert_side, InsertCard, WordsAreSound}
use Rattle.ell_core.specs.history.Later.{WordsLater, StagesLater}
use Rattle.ell_core.specs.statements.Since.{has_ended}
use Rattle.ell_core.proofs.lemmas.stages.Order.{insert-claimed, changed-insert, insert_over-changed, over-delete, backed-delete, changed_nodes}
use Rattle.ell_core.proofs.lemmas.stages.Below.{keeps_later}
use Rattle.ell_core.proofs.lemmas.stages.Ended.{ended_cases, ends_last}
use Rattle.ell_grace.specs.Dead.{IsUnused, NeverComes}
use Rattle.ell_grace.proofs.lemmas.outs.Taken.{born_low}

-- no node of a delete's card comes into the tree
pub delete_node-unborn : (s : Stage) (place : ℕ) → is_delete s ≡ true → is_node_born s place ≡ true → ⊥
delete_node-unborn s place h g = grind arith

-- a card that has brought a node, and has made its child exchange by now, had made it
born-changed : (s t : Stage) (place : ℕ) → is_start t ≡ is_start s → is_node_born s place ≡ true → is_changed t ≡ true → is_changed s ≡ true
born-changed s t place same h g = grind arith

-- words and stages that are later
module _ (old : Words) (stage : Stages) (sound : WordsAreSound old stage) (new : Words) (after : Stages) (sound' : WordsAreSound new after)
    (words : WordsLater old new) (later : StagesLater stage after) where
  -- a card that has made its child exchange is claimed
  pub changed_low : (c : ℕ) → is_changed (stage c) ≡ true → c < old.next
  changed_low c changed = (sound.cards c).claimed.0 (insert-claimed (stage c) (changed-insert (stage c) changed))

  -- a claimed card replaces a leaf if it did
  pub replace_same : (c : ℕ) → c < old.next → is_replace_card new c ≡ is_replace_card old c
  replace_same c low =
      ap (λ n. n == new.key (right_leaf c)) (words.key (left_leaf c) (omega arith))
      ∙ ap (λ n. old.key (left_leaf c) == n) (words.key (right_leaf c) (omega arith))

  -- and brings what it brought
  pub brought_same : (c : ℕ) → c < old.next → brought new c ≡ brought old c
  brought_same c low = ap (brought_by c) (replace_same c low)

  -- on the side where it brought it
  pub side_same : (c : ℕ) → c < old.next → InsertCard old stage c → insert_side new c ≡ insert_side old c
  side_same c low said =
      ap (λ n. nat_le n (new.key (internal c))) (ap new.key (words.info c low).p ∙ words.key (old.p c) (born_low old stage sound (old.p c) said.parent.born))
      ∙ ap (nat_le (old.key (old.p c))) (words.key (internal c) (omega arith))

  -- what came of a card that has made its child exchange is what came
  pub born_same : (c : ℕ) → is_changed (stage c) ≡ true → is_born (after c) ≡ is_born (stage c)
  born_same c changed =
      (sound'.inserts c).brings (later.told (fact.IChanged c) c changed)
      ∙ (ap not (replace_same c (changed_low c changed)) ∙ sym ((sound.inserts c).brings changed))

  pub node_born_same : (c place : ℕ) → is_changed (stage c) ≡ true → is_node_born (after c) place ≡ is_node_born (stage c) place
  node_born_same c place changed =
      changed_nodes (after c) place (later.told (fact.IChanged c) c changed)
      ∙ (ap (λ b. (b && nat_le place 2) || (place == 2)) (born_same c changed) ∙ sym (changed_nodes (stage c) place changed))

  -- so a card that has ended brings nothing more
  pub ended_born : (x : ℕ) → has_ended (stage (card x)) ≡ true → Born after x → Born stage x
  ended_born x ended born = elim (ended_cases (stage (card x)) ended) [
    | inl over ↦ sym (node_born_same (card x) (x % 4) (insert_over-changed (stage (card x)) over)) ∙ born
    | inr r ↦ elim r [
      | inl over ↦ absurd (delete_node-unborn (after (card x)) (x % 4) (later.delete (card x) (over-delete (stage (card x)) over)) born)
      | inr backed ↦ absurd (delete_node-unborn (after (card x)) (x % 4) (later.delete (card x) (backed-delete (stage (card x)) backed)) born)
    ]
  ]

  -- the key of the node where a card has gone
  lower_key : (c : ℕ) → is_changed (stage c) ≡ true → new.key (new.l c) ≡ old.key (old.l c)
  lower_key c changed =
      ap new.key (words.info c (changed_low c changed)).l
      ∙ words.key (old.l c) (born_low old stage sound (old.l c) ((sound.cards c).insert (changed-insert (stage c) changed)).lower)

  -- what nobody used nobody uses
  pub unused_on : (x : ℕ) → IsUnused old stage x → IsUnused new after x
  unused_on x h =
      let low = changed_low (card x) h.0 in (
        later.told (fact.IChanged (card x)) (card x) h.0,
        keeps_later old new words (card x) low ∙ h.1,
        h.2,
        words.key x low ∙ (h.3 ∙ sym (lower_key (card x) h.0)),
      )

  -- and what nobody uses that had come into the tree, nobody used
  pub unused_back : (x : ℕ) → Born stage x → IsUnused new after x → IsUnused old stage x
  unused_back x born h =
      let changed = born-changed (stage (card x)) (after (card x)) (x % 4) (later.start (card x)) born h.0 in
      let low = changed_low (card x) changed in (
        changed,
        sym (keeps_later old new words (card x) low) ∙ h.1,
        h.2,
        sym (words.key x low) ∙ (h.3 ∙ lower_key (card x) changed),
      )

  -- so what never comes never comes
  pub never_later : (x : ℕ) → NeverComes old stage x → NeverComes new after x
  never_later x never = (
    ends_last stage after later (card x) never.0,
    elim never.1 [
      | inl unborn ↦ inl (λ born. unborn (ended_born x never.0 born))
      | inr unused ↦ inr (unused_on x unused)
    ],
  )
