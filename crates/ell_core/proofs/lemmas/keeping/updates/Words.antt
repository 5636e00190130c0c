use Rattle.std.proofs.Common.{◌≡◌, ◌≢◌, ℕ, ◌<◌, true, inl, inr, sym, ap, ◌∙◌, subst}
use Rattle.std.proofs.lemmas.Bool.{cases_eq}
use Rattle.ell_word.specs.Node.{IsInternal}
use Rattle.ell_word.specs.Word.{unpacked}
use Rattle.ell_core.specs.declared.fact.Fact.TheVariants as fact
use Rattle.ell_layout.specs.Words.{Words, put, with_update}
use Rattle.ell_layout.specs.Cards.{marked}
use Rattle.ell_core.specs.history.Stages.{Stage, Stages, insert_open, delete_open, Born}
use Rattle.ell_core.specs.history.Invariant.{InsertStage, DeleteStage, ChildrenAreSound, UpdateIsSound, TreeIsSound, WordsAreSound}
use Rattle.ell_layout.proofs.lemmas.Writes.{put_same, put_other, put_cases}
use Rattle.ell_core.proofs.lemmas.keeping.updates.Cards.{UpdateExchange, born_later, born_before, card_later, insert_later, delete_later}
use Rattle.ell_core.proofs.lemmas.keeping.going_on.Stages.{insert_stage_same, delete_stage_same}
use Rattle.ell_core.proofs.lemmas.stages.Advances.{stages_put}
use Rattle.ell_core.proofs.lemmas.stages.Kinds.{starts_later}
use Rattle.ell_trie.proofs.lemmas.Paths.{same_born}

-- what is particular to an exchange: what the new stage says of the card, and what the new word says at its node
pub record NewWord (w : Words) (stage : Stages) (x value c : ℕ) (new : Stage) : Type 0 where
  pub insert : InsertStage (with_update w x value) (λ d. new) c
  pub delete : DeleteStage (with_update w x value) (λ d. new) c
  pub update : UpdateIsSound (with_update w x value) (put stage c new) x

module _ (w : Words) (stage : Stages) (x value c : ℕ) (new : Stage) (e : UpdateExchange w stage x value c new) where
  -- the children of a node are sound as they were
  children_later : (y : ℕ) → ChildrenAreSound w stage y → ChildrenAreSound (with_update w x value) (put stage c new) y
  children_later y k = record {
    born = λ right. born_later w stage x value c new e (w.child y right) (k.born right);
    rising = k.rising;
    left_less = k.left_less;
    right_more = k.right_more;
  }

  -- an insert whose flag stands at another node than x has it standing
  open_insert : (d y : ℕ) → y ≢ x → insert_open (stage d) ≡ true → w.p d ≡ y → insert_open (put stage c new d) ≡ true
  open_insert d y n h at = put_cases (λ s. insert_open s ≡ true) stage c new d
      (λ same. elim (e.insert_ends (subst (λ z. insert_open (stage z) ≡ true) same h)) [
        | inl r ↦ r
        | inr r ↦ absurd (n (sym at ∙ (ap w.p same ∙ r)))
      ])
      (λ other. h)

  -- a delete whose flag stands at another node than x has it standing
  open_delete : (d y : ℕ) → y ≢ x → delete_open (stage d) ≡ true → w.gp d ≡ y → delete_open (put stage c new d) ≡ true
  open_delete d y n h at = put_cases (λ s. delete_open s ≡ true) stage c new d
      (λ same. elim (e.delete_ends (subst (λ z. delete_open (stage z) ≡ true) same h)) [
        | inl r ↦ r
        | inr r ↦ absurd (n (sym at ∙ (ap w.gp same ∙ r)))
      ])
      (λ other. h)

  -- the update word of another node is sound as it was
  update_later : (y : ℕ) → y ≢ x → UpdateIsSound w stage y → UpdateIsSound (with_update w x value) (put stage c new) y
  update_later y n k = let same = put_other w.update x value y n in record {
    named = subst (λ word. (unpacked word).card < w.next) (sym same) k.named;
    iflagged = λ d h. (let a = k.iflagged d (sym same ∙ h) in (open_insert d y n a.0 a.1, a.1));
    dflagged = λ d h. (let a = k.dflagged d (sym same ∙ h) in (open_delete d y n a.0 a.1, a.1));
    marked = λ d h. (let a = k.marked d (sym same ∙ h) in ((stages_put stage c new e.later).told (fact.Marked d) d a.0, a.1));
  }

  -- what has no mark after had none before
  unmarked_before : (y : ℕ) → ((d : ℕ) → put w.update x value y ≢ marked d) → (d : ℕ) → w.update y ≢ marked d
  unmarked_before y h d g = elim (cases_eq y x) [
    | inl same ↦ e.unmarked d (ap w.update (sym same) ∙ g)
    | inr n ↦ h d (put_other w.update x value y n ∙ g)
  ]

  -- the tree is sound as it was
  tree_later : TreeIsSound w stage → TreeIsSound (with_update w x value) (put stage c new)
  tree_later k = record {
    ordered = k.ordered;
    trie = λ flat. same_born (λ y inner. born_before w stage x value c new e y) (born_later w stage x value c new e) (k.trie flat);
    root_key = k.root_key;
    root_right = k.root_right;
    right_key = k.right_key;
    last = k.last;
    there = λ y inner born calm. k.there y inner (born_before w stage x value c new e y born) (unmarked_before y calm);
  }

  -- each card's stage says of its insert what it should
  inserts_later : NewWord w stage x value c new → WordsAreSound w stage → (d : ℕ)
      → InsertStage (with_update w x value) (put stage c new) d
  inserts_later now k d = elim (cases_eq d c) [
    | inl same ↦ subst (InsertStage (with_update w x value) (put stage c new)) (sym same)
        (insert_stage_same (with_update w x value) (λ z. new) (put stage c new) c (sym (put_same stage c new)) now.insert)
    | inr n ↦ insert_later w stage x value c new e k d n
  ]

  -- each card's stage says of its delete what it should
  deletes_later : NewWord w stage x value c new → WordsAreSound w stage → (d : ℕ)
      → DeleteStage (with_update w x value) (put stage c new) d
  deletes_later now k d = elim (cases_eq d c) [
    | inl same ↦ subst (DeleteStage (with_update w x value) (put stage c new)) (sym same)
        (delete_stage_same (with_update w x value) (λ z. new) (put stage c new) c (sym (put_same stage c new)) now.delete)
    | inr n ↦ delete_later w stage x value c new e k d n
  ]

  -- the update words are sound
  updates_later : NewWord w stage x value c new → ((y : ℕ) → IsInternal y → Born stage y → UpdateIsSound w stage y)
      → (y : ℕ) → IsInternal y → Born (put stage c new) y → UpdateIsSound (with_update w x value) (put stage c new) y
  updates_later now k y inner born = elim (cases_eq y x) [
    | inl same ↦ subst (UpdateIsSound (with_update w x value) (put stage c new)) (sym same) now.update
    | inr n ↦ update_later y n (k y inner (born_before w stage x value c new e y born))
  ]

  -- the words are sound after the exchange
  pub words_exchanged : NewWord w stage x value c new → WordsAreSound w stage
      → WordsAreSound (with_update w x value) (put stage c new)
  words_exchanged now k = record {
    opening = put_other stage c new 0 (λ zero. e.tree (ap stage (sym zero) ∙ k.opening)) ∙ k.opening;
    flat = λ some. starts_later w.flat_from stage (put stage c new) (stages_put stage c new e.later).start (k.flat some);
    tags = k.tags;
    cards = card_later w stage x value c new e k;
    inserts = inserts_later now k;
    deletes = deletes_later now k;
    children = λ y inner born. children_later y (k.children y inner (born_before w stage x value c new e y born));
    updates = updates_later now k.updates;
    tree = tree_later k.tree;
  }
