use Rattle.std.proofs.Common.{◌≡◌, ◌≢◌, ℕ, ◌%◌, ◌<◌, ◌≤◌, Bool, true, false, not, inl, inr, refl, sym, ap, ◌∙◌, subst, arith}
use Rattle.std.proofs.lemmas.Bool.{false≢true, cases_eq, leb-false, leb-true}
use Rattle.ell_word.specs.Node.{IsInternal, card, right_leaf, infinity1}
use Rattle.ell_layout.specs.Words.{Words}
use Rattle.ell_layout.specs.Cards.{dflag, sibling}
use Rattle.ell_core.specs.history.Stages.{Stages, Stage, Opening, DMarked, DCut, is_claimed, is_insert, is_delete, is_born, is_node_born, insert_open, delete_open, is_marked, Born, insert_won}
use Rattle.ell_core.specs.history.Invariant.{insert_side, delete_side, leaf_side, CardIsSound, InsertStage, DeleteStage, ChildrenAreSound, UpdateIsSound, TreeIsSound, WordsAreSound}
use Rattle.ell_core.specs.history.Later.{SaysTheSame, StagesLater, WordsLater}
use Rattle.ell_core.proofs.lemmas.tree.Reached.{leads_any, leads_some}
use Rattle.ell_layout.proofs.lemmas.Writes.{put_other, put_same}
use Rattle.ell_core.proofs.lemmas.stages.Order.{delete_waits-open, insert_waits-open, inner-born}
use Rattle.ell_core.proofs.lemmas.words.Later.{child_there, child_elsewhere, words_child, child_says, SameLink, link_other, tag_there, tags_below}
use Rattle.ell_core.proofs.lemmas.keeping.delete_child.Stages.{cut_stages, cut_stages_later, stage_kept}
use Rattle.ell_core.proofs.lemmas.keeping.delete_child.Tree.{cut_words, CutsAt, CutTree}
use Rattle.ell_core.proofs.lemmas.keeping.going_on.Cards.{GoesOn, card_on}
use Rattle.ell_core.proofs.lemmas.keeping.going_on.Stages.{marked_on, no_insert, delete_stage_same, insert_stage_on, delete_stage_on}
use Rattle.ell_core.proofs.lemmas.words.CleanWords.{clean_remainder}
use Rattle.ell_core.proofs.lemmas.tree.Ranks.{rank_root}
use Rattle.ell_core.specs.tree.Rank.{rank}
use Rattle.ell_core.proofs.lemmas.stages.Kinds.{starts_later}
use Rattle.ell_trie.proofs.lemmas.Paths.{same_born}

-- the children after
module _ (w : Words) (stage : Stages) (c : ℕ) (at : CutsAt w stage c) where
  -- a child word of a node with another update word is as it was
  pub link_same : (x : ℕ) (right : Bool) → w.update x ≢ dflag c → SameLink w (cut_words w c) x right
  link_same x right other = link_other w (w.gp c) (sibling w c) (delete_side w c) x right (λ e. other (ap w.update e ∙ at.flag))

  -- the words are later
  pub cut_words_later : WordsLater w (cut_words w c)
  cut_words_later = words_child w (w.gp c) (sibling w c) (delete_side w c)
      (λ none. let above = at.above in let same = ap (rank w) none in let least = rank_root w in omega arith) (λ d e. let flag = at.flag in omega arith)

-- the words after
module _ (w : Words) (stage : Stages) (sound : WordsAreSound w stage) (c : ℕ) (now : stage c ≡ DMarked)
    (at : CutsAt w stage c) (tree : CutTree w stage c) where
  -- the words and the stages after
  abbrev after : Words
  after = cut_words w c

  abbrev new : Stages
  new = cut_stages stage c

  -- the stages are later
  later : StagesLater stage new
  later = cut_stages_later stage c now

  -- a test that does not tell the two stages apart was met before
  before : (test : Stage → Bool) → test DCut ≡ test DMarked → (d : ℕ) {b : Bool} → test (new d) ≡ b → test (stage d) ≡ b
  before test kept d {b} h = sym (stage_kept stage c now test kept d) ∙ h

  -- a card whose nodes did not come into the tree says what it said
  pub unborn_says : (d : ℕ) → is_born (stage d) ≡ false → SaysTheSame w after d
  unborn_says d not_born = child_says w (w.gp c) (sibling w c) (delete_side w c) d
      (λ e. let same : card (w.gp c) ≡ d = omega arith in
      false≢true (sym not_born ∙ subst (λ n. is_born (stage n) ≡ true) same (inner-born (stage (card (w.gp c))) (w.gp c % 4) at.grandparent.inner at.grandparent.born)))

  -- cards and workers go on
  pub cut_goes_on : GoesOn w after stage new
  cut_goes_on = record {
    sound = sound;
    words = cut_words_later w stage c at;
    later = later;
    calm = λ x word born calm least e. record {
      stood = e;
      link = λ right. link_same w stage c at x right (λ f. let three = clean_remainder word calm in omega arith);
    };
    course = λ k x born h. tree.course k x h;
    out = λ x born h. tree.still_out x h;
  }

  -- each card is sound after
  cards_after : (d : ℕ) → CardIsSound after new d
  cards_after d = card_on w after stage new cut_goes_on d (record {
    claimed = stage_kept stage c now is_claimed refl d;
    next = (λ less. less, λ less. less);
    insert = λ g. before is_insert refl d g;
    delete = λ g. before is_delete refl d g;
    words = unborn_says d;
  })

  -- inserts say of their parents what they said: only the flag of the delete stands at the grandparent
  inserts_after : (d : ℕ) → InsertStage after new d
  inserts_after d = elim (cases_eq d c) [
    | inl e ↦ subst (InsertStage after new) (sym e) (no_insert after new c (ap insert_won (put_same stage c DCut)))
    | inr n ↦ insert_stage_on w after stage new cut_goes_on d (put_other stage c DCut d n) (λ g. refl)
        (λ g. link_same w stage c at (w.p d) (insert_side w d)
        (λ e. let flag = (sound.inserts d).flag (insert_waits-open (stage d) g) in omega arith))
  ]

  -- the delete has cut
  cut_here : DeleteStage after (λ d. DCut) c
  cut_here = record {
    flag = λ g. at.flag;
    past = λ g. absurd (false≢true g);
    waits = λ g. absurd (false≢true g);
    tagged = λ g. absurd (false≢true g);
    markable = λ g. absurd (false≢true g);
    unmarkable = λ g. absurd (false≢true g);
    marked = λ g. marked_on w after stage new cut_goes_on c (ap is_delete now) ((sound.deletes c).marked (ap is_marked now));
    cut = λ g. record {
      past = let there = tag_there w (w.gp c) (sibling w c) (delete_side w c) in let was = at.tagged in omega arith;
      out = tree.out;
    };
  }

  -- deletes say of their nodes what their stages say
  deletes_after : (d : ℕ) → DeleteStage after new d
  deletes_after d = elim (cases_eq d c) [
    | inl e ↦ subst (DeleteStage after new) (sym e) (delete_stage_same after (λ n. DCut) new c (sym (put_same stage c DCut)) cut_here)
    | inr n ↦ delete_stage_on w after stage new cut_goes_on d (put_other stage c DCut d n) (λ g. refl)
        (λ g. link_same w stage c at (w.gp d) (delete_side w d)
        (λ e. let flag = (sound.deletes d).flag (delete_waits-open (stage d) g) in n (omega arith)))
  ]

  -- the sibling came into the tree
  sibling_born : Born stage (sibling w c)
  sibling_born = subst (Born stage) at.sibling_there
      ((sound.children (w.p c) at.parent.inner at.parent.born).born (not (leaf_side w c)))

  -- what holds of the sibling where it is put, and of each child elsewhere, holds of each child after
  child_cases : (x : ℕ) (right : Bool) (P : ℕ → Type 0) → (x ≡ w.gp c → right ≡ delete_side w c → P (sibling w c))
      → P (w.child x right) → P (after.child x right)
  child_cases x right P here elsewhere = elim (child_elsewhere w (w.gp c) (sibling w c) (delete_side w c) x right) [
    | inl e ↦
        let there = child_there w (w.gp c) (sibling w c) (delete_side w c) in
        let is_sibling = ap (λ n. after.child n right) e.0 ∙ (ap (after.child (w.gp c)) e.1 ∙ there) in
        subst P (sym is_sibling) (here e.0 e.1)
    | inr e ↦ subst P (sym e) elsewhere
  ]

  -- where the sibling is put on the left its key is less, and on the right no less
  put_left : (x : ℕ) → x ≡ w.gp c → false ≡ delete_side w c → w.key (sibling w c) < w.key x
  put_left x e side = subst (λ n. w.key (sibling w c) < w.key n) (sym e)
      (leb-false (w.key (w.gp c)) (w.key (sibling w c)) (at.side ∙ sym side))

  put_right : (x : ℕ) → x ≡ w.gp c → true ≡ delete_side w c → w.key x ≤ w.key (sibling w c)
  put_right x e side = subst (λ n. w.key n ≤ w.key (sibling w c)) (sym e)
      (leb-true (w.key (w.gp c)) (w.key (sibling w c)) (at.side ∙ sym side))

  -- its rank is greater
  put_below : (x : ℕ) → x ≡ w.gp c → rank w x < rank w (sibling w c)
  put_below x e = let from = ap (rank w) e in let first = at.first in let above = at.above in omega arith

  -- the children of each node are sound
  children_after : (x : ℕ) → IsInternal x → Born new x → ChildrenAreSound after new x
  children_after x inner born = let h = sound.children x inner (before (λ s. is_node_born s (x % 4)) refl (card x) born) in record {
    born = λ right. child_cases x right (Born new)
        (λ e f. later.born (sibling w c) sibling_born) (later.born (w.child x right) (h.born right));
    rising = λ right. child_cases x right (λ n. rank w x < rank w n) (λ e side. put_below x e) (h.rising right);
    left_less = child_cases x false (λ n. w.key n < w.key x) (put_left x) h.left_less;
    right_more = child_cases x true (λ n. w.key x ≤ w.key n) (put_right x) h.right_more;
  }

  -- so is its update word
  updates_after : (x : ℕ) → IsInternal x → Born new x → UpdateIsSound after new x
  updates_after x inner born = let h = sound.updates x inner (before (λ s. is_node_born s (x % 4)) refl (card x) born) in record {
    named = h.named;
    iflagged = λ d e. (stage_kept stage c now insert_open refl d ∙ (h.iflagged d e).0, (h.iflagged d e).1);
    dflagged = λ d e. (stage_kept stage c now delete_open refl d ∙ (h.dflagged d e).0, (h.dflagged d e).1);
    marked = λ d e. (stage_kept stage c now is_marked refl d ∙ (h.marked d e).0, (h.marked d e).1);
  }

  -- the root's right child is the same leaf
  root_right_after : after.child 0 true ≡ right_leaf 0
  root_right_after = child_cases 0 true (λ n. n ≡ right_leaf 0) (λ e f. absurd (not_parent e f)) sound.tree.root_right
    where
      not_parent : 0 ≡ w.gp c → true ≡ delete_side w c → ⊥
      not_parent e f =
          let moved = ap (λ n. w.child n (delete_side w c)) (sym e) ∙ ap (w.child 0) (sym f) in
          let parent : w.p c ≡ right_leaf 0 = sym at.waits ∙ (moved ∙ sound.tree.root_right) in
          let inner = at.parent.inner in
          omega arith

  -- so is the tree
  tree_after : TreeIsSound after new
  tree_after = record {
    ordered = tree.ordered;
    trie = λ some. same_born (λ x inner born. before (λ s. is_node_born s (x % 4)) refl (card x) born) later.born (tree.trie some);
    root_key = sound.tree.root_key;
    root_right = root_right_after;
    right_key = sound.tree.right_key;
    last = let there = leads_some w infinity1 sound.tree.last in
        leads_any after infinity1 there.0 0 ((tree.leads infinity1 there.0 0 (λ e. let real = at.real in omega arith)).1 there.1);
    there = λ x inner born calm. tree.stays x inner (λ e. calm c (ap w.update e ∙ at.mark))
        (sound.tree.there x inner (before (λ s. is_node_born s (x % 4)) refl (card x) born) calm);
  }

  no_opening : Opening ≢ DMarked
  no_opening e = cc

  -- the words are sound after
  pub cut_words_sound : WordsAreSound after new
  cut_words_sound = record {
    opening = put_other stage c DCut 0 (λ e. no_opening (sym sound.opening ∙ (ap stage e ∙ now))) ∙ sound.opening;
    flat = λ some. starts_later w.flat_from stage new later.start (sound.flat some);
    tags = (
        let expected = at.expected in
        let tag = at.tagged in
        let claimed = (sound.cards c).claimed.0 (ap is_claimed now) in
        tags_below w (w.gp c) (sibling w c) (delete_side w c) w.next (omega arith) sound.tags);
    cards = cards_after;
    inserts = inserts_after;
    deletes = deletes_after;
    children = children_after;
    updates = updates_after;
    tree = tree_after;
  }
