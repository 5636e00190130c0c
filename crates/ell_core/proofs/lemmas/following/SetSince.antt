use Rattle.std.proofs.Common.{◌≡◌, ◌⊎◌, ℕ, ◌<◌, ◌≤◌, Bool, true, false, inl, inr, refl, sym, ap, ◌∙◌, arith}
use Rattle.ell_word.specs.Node.{IsInternal}
use Rattle.ell_word.specs.Word.{packed, unpacked}
use Rattle.ell_word.specs.declared.update.State.{State}
use Rattle.ell_word.specs.declared.update.State.TheVariants as state
use Rattle.ell_layout.specs.Words.{Words}
use Rattle.ell_core.specs.state.Machine.{Machine}
use Rattle.ell_layout.specs.Cards.{iflag, dflag, marked, clean}
use Rattle.ell_core.specs.acts.Searching.{IsClean}
use Rattle.ell_core.specs.history.Stages.{Stages, Born, is_insert, is_delete, insert_won, insert_open, insert_over, is_changed, delete_won, delete_open, is_marked}
use Rattle.ell_core.specs.history.Invariant.{Invariant}
use Rattle.ell_core.specs.history.Later.{WordsLater, StagesLater}
use Rattle.ell_core.specs.statements.Since.{has_ended, CleansSince}
use Rattle.ell_core.proofs.lemmas.words.CleanWords.{clean_remainder}
use Rattle.ell_core.proofs.lemmas.words.Packed.{packed_again}
use Rattle.ell_core.proofs.lemmas.stages.Order.{insert-claimed, delete-claimed, insert_open-won, delete_open-won, insert_won-insert, delete_won-delete, marked-delete, marked-won, over-marked, changed-won, insert_over-changed, insert_over-insert, one_kind}
use Rattle.ell_core.proofs.lemmas.stages.Flags.{insert-unended, delete-unended, backed-won}
use Rattle.ell_core.proofs.lemmas.stages.Ended.{ended_cases, insert_open-unended, delete_open-unended, unended_before}

-- a card has set its flag or its mark at a node since these stages
pub data IsSetSince (first : Stages) (w : Words) (stage : Stages) (e y : ℕ) : Type 0 where
  insert_flag : insert_won (first e) ≡ false → insert_won (stage e) ≡ true → w.p e ≡ y → IsSetSince first w stage e y
  delete_flag : delete_won (first e) ≡ false → delete_won (stage e) ≡ true → w.gp e ≡ y → IsSetSince first w stage e y
  mark : is_marked (first e) ≡ false → is_marked (stage e) ≡ true → w.p e ≡ y → IsSetSince first w stage e y

-- an update word that has risen over a clean one that was no less than it is here
module _ (m0 : Machine) (first : Stages) (before : Invariant m0 first) (m : Machine) (stage : Stages) (invariant : Invariant m stage)
    (words : WordsLater m0.words m.words) (more : StagesLater first stage) (cleans : CleansSince m0.words first m.words stage)
    (unchanged : (e : ℕ) → is_changed (stage e) ≡ true → is_changed (first e) ≡ true)
    (y word : ℕ) (inner : IsInternal y) (born : Born stage y) (below : 0 < y) (calm : IsClean word) (low : m0.words.update y ≤ word) (high : word < m.words.update y) where
  abbrev Set : ℕ → Type 0
  Set e = IsSetSince first m.words stage e y

  low_insert : (e : ℕ) → insert_won (first e) ≡ true → e < m0.words.next
  low_insert e won = (before.words.cards e).claimed.0 (insert-claimed (first e) (insert_won-insert (first e) won))

  low_delete : (e : ℕ) → is_delete (first e) ≡ true → e < m0.words.next
  low_delete e deletes = (before.words.cards e).claimed.0 (delete-claimed (first e) deletes)

  -- what stood there before was no flag of the card
  no_insert : (e : ℕ) → insert_open (first e) ≡ true → m.words.p e ≡ y → m0.words.update y ≡ iflag e
  no_insert e o at =
      let goes = (words.info e (low_insert e (insert_open-won (first e) o))).p in
      ap m0.words.update (sym at ∙ goes) ∙ (before.words.inserts e).flag o

  no_delete : (e : ℕ) → delete_open (first e) ≡ true → m.words.gp e ≡ y → m0.words.update y ≡ dflag e
  no_delete e o at =
      let goes = (words.info e (low_delete e (delete_won-delete (first e) (delete_open-won (first e) o)))).gp in
      ap m0.words.update (sym at ∙ goes) ∙ (before.words.deletes e).flag o

  set_insert : (e : ℕ) → m.words.update y ≡ iflag e → Set e
  set_insert e is = by (insert_won (first e)) refl
    where
      now : (insert_open (stage e) ≡ true) × (m.words.p e ≡ y)
      now = (invariant.words.updates y inner born).iflagged e is

      by : (b : Bool) → insert_won (first e) ≡ b → Set e
      by false won = insert_flag won (insert_open-won (stage e) now.0) now.1
      by true won =
          let stood = no_insert e (insert-unended (first e) won (unended_before first stage more e (insert_open-unended (stage e) now.0))) now.1 in
          absurd (omega arith)

  set_delete : (e : ℕ) → m.words.update y ≡ dflag e → Set e
  set_delete e is = by (delete_won (first e)) refl
    where
      now : (delete_open (stage e) ≡ true) × (m.words.gp e ≡ y)
      now = (invariant.words.updates y inner born).dflagged e is

      by : (b : Bool) → delete_won (first e) ≡ b → Set e
      by false won = delete_flag won (delete_open-won (stage e) now.0) now.1
      by true won =
          let stood = no_delete e (delete-unended (first e) won (unended_before first stage more e (delete_open-unended (stage e) now.0))) now.1 in
          absurd (omega arith)

  set_mark : (e : ℕ) → m.words.update y ≡ marked e → Set e
  set_mark e is = by (is_marked (first e)) refl
    where
      now : (is_marked (stage e) ≡ true) × (m.words.p e ≡ y)
      now = (invariant.words.updates y inner born).marked e is

      by : (b : Bool) → is_marked (first e) ≡ b → Set e
      by false has = mark has now.0 now.1
      by true has =
          let goes = (words.info e (low_delete e (marked-delete (first e) has))).p in
          let stood = ap m0.words.update (sym now.1 ∙ goes) ∙ ((before.words.deletes e).marked has).mark in
          absurd (omega arith)

  set_ended_delete : (e : ℕ) → m.words.update y ≡ clean e → has_ended (first e) ≡ false → delete_won (stage e) ≡ true
      → ((is_insert (stage e) ≡ true) × (m.words.p e ≡ y)) ⊎ (m.words.gp e ≡ y) → Set e
  set_ended_delete e is un won (inl h) = absurd (one_kind (stage e) h.0 (delete_won-delete (stage e) won))
  set_ended_delete e is un won (inr at) = by (delete_won (first e)) refl
    where
      by : (b : Bool) → delete_won (first e) ≡ b → Set e
      by false old = delete_flag old won at
      by true old =
          let stood = no_delete e (delete-unended (first e) old un) at in
          let rest = clean_remainder word calm in
          absurd (omega arith)

  set_ended_insert : (e : ℕ) → m.words.update y ≡ clean e → has_ended (first e) ≡ false → insert_over (stage e) ≡ true
      → ((is_insert (stage e) ≡ true) × (m.words.p e ≡ y)) ⊎ (m.words.gp e ≡ y) → Set e
  set_ended_insert e is un over (inl h) =
      let stood = no_insert e (insert-unended (first e) (changed-won (first e) (unchanged e (insert_over-changed (stage e) over))) un) h.1 in
      let rest = clean_remainder word calm in
      absurd (omega arith)
  set_ended_insert e is un over (inr at) =
      let root = ((invariant.words.cards e).insert (insert_over-insert (stage e) over)).gp in
      absurd (omega arith)

  set_clean : (e : ℕ) → m.words.update y ≡ clean e → Set e
  set_clean e is =
      let rest = clean_remainder word calm in
      let h = cleans y e (omega arith) is (omega arith) in
      elim (ended_cases (stage e) h.1) [
        | inl over ↦ set_ended_insert e is h.0 over h.2.1
        | inr ended ↦ elim ended [
          | inl over ↦ set_ended_delete e is h.0 (marked-won (stage e) (over-marked (stage e) over)) h.2.1
          | inr back ↦ set_ended_delete e is h.0 (backed-won (stage e) back) h.2.1
        ]
      ]

  set_by : (s : State) (e : ℕ) → m.words.update y ≡ packed (record { state = s; card = e }) → Set e
  set_by state.IFlag e is = set_insert e is
  set_by state.DFlag e is = set_delete e is
  set_by state.Mark e is = set_mark e is
  set_by state.Clean e is = set_clean e is

  -- the card that it names has set a flag or a mark there since
  pub set_since : IsSetSince first m.words stage (unpacked (m.words.update y)).card y
  set_since = set_by (unpacked (m.words.update y)).state (unpacked (m.words.update y)).card (sym (packed_again (m.words.update y)))
