use Rattle.std.proofs.Common.{◌≡◌, ℕ, ◌<◌, ◌≤◌, Bool, true, false, Some, inl, inr, refl, sym, subst, arith}
use Rattle.std.proofs.lemmas.Bool.{cases_lt}
use Rattle.ell_word.specs.Node.{IsInternal, card}
use Rattle.ell_core.specs.declared.fact.Fact.TheVariants.{Marked}
use Rattle.ell_layout.specs.declared.field.Field.TheVariants.{Gp, P}
use Rattle.ell_core.specs.declared.view.Seen.{Seen}
use Rattle.ell_core.specs.state.Machine.{Machine, scene}
use Rattle.ell_layout.specs.Cards.{sibling}
use Rattle.ell_core.specs.history.Stages.{Stages, Born}
use Rattle.ell_core.specs.history.Invariant.{Blank, Invariant}
use Rattle.ell_world.specs.Fits.{IsTableNode, IsInner, SceneFits}
use Rattle.ell_core.specs.statements.StepLaws.{IsReadable, Reliance}
use Rattle.ell_core.proofs.lemmas.stages.Order.{born_is_node}
use Rattle.ell_core.proofs.lemmas.words.Sides.{sibling_cases}
use Rattle.ell_core.proofs.lemmas.following.facts.Claimed.{not_claimed}
use Rattle.ell_core.proofs.lemmas.following.Reliance.{may_rely}

module _ (m : Machine) (stage : Stages) (i : ℕ) (invariant : Invariant m stage) where
  -- what a step of the worker may rely on
  rely : Reliance m stage i
  rely = may_rely m stage i invariant

  -- a claimed card is one of the table
  in_table : (c : ℕ) → c < m.words.next → c ≤ m.last_card
  in_table c below = let room = rely.room in omega arith

  -- a node that came into the tree is one of the table
  born_node : (x : ℕ) → Born stage x → IsTableNode m.last_card x
  born_node x born = (in_table (card x) (rely.claimed x born), born_is_node stage x born)

  -- a node that may be read is an internal one of the table
  read_inner : (x : ℕ) → IsReadable m.words stage x → IsInner m.last_card x
  read_inner x may = (born_node x may.born, may.inner)

  -- the root is
  zero_inner : (x : ℕ) → x ≡ 0 → IsInner m.last_card x
  zero_inner x e = ((omega arith, λ three. omega arith), subst IsInternal (sym e) refl)

  -- a card that was not claimed is blank
  past_blank : (c : ℕ) → m.words.next ≤ c → Blank m.words c
  past_blank c past = (invariant.words.cards c).blank (not_claimed m.words stage invariant.words c past)

  -- the grandparent of each card
  gp_inner : (c : ℕ) → IsInner m.last_card (m.words.gp c)
  gp_inner c = elim (cases_lt c m.words.next) [
    | inl below ↦ read_inner (m.words.gp c) (rely.goes c below).grandparent
    | inr past ↦ zero_inner (m.words.gp c) ((past_blank c past).words Gp)
  ]

  -- its parent
  p_inner : (c : ℕ) → IsInner m.last_card (m.words.p c)
  p_inner c = elim (cases_lt c m.words.next) [
    | inl below ↦ read_inner (m.words.p c) (rely.goes c below).parent
    | inr past ↦ zero_inner (m.words.p c) ((past_blank c past).words P)
  ]

  -- the parent above which a card in hand is not flagged
  parent_inner : (c : ℕ) (seen : Seen) → (m.worker i).card ≡ Some c → (m.worker i).flagged ≡ false → (m.worker i).search.parent ≡ Some seen
      → IsInner m.last_card seen.node
  parent_inner c seen holds unflagged behind =
      let at = rely.unflagged c holds unflagged in
      read_inner seen.node (rely.parent at.node seen at.stands behind).node

  -- its grandparent
  grandparent_inner : (c : ℕ) (seen : Seen) → (m.worker i).card ≡ Some c → (m.worker i).flagged ≡ false
      → (m.worker i).search.grandparent ≡ Some seen → IsInner m.last_card seen.node
  grandparent_inner c seen holds unflagged above =
      let at = rely.unflagged c holds unflagged in
      read_inner seen.node (rely.grandparent at.node at.parent seen at.stands at.behind above).node

  -- the tag of each child
  tag_small : (x : ℕ) (right : Bool) → m.words.tag x right ≤ m.last_card
  tag_small x right = in_table (m.words.tag x right) (invariant.words.tags x right)

  -- the tag that a search saw at its parent
  parent_tag_small : (x : ℕ) (seen : Seen) → (m.worker i).search.node ≡ Some x → (m.worker i).search.parent ≡ Some seen
      → seen.tag ≤ m.last_card
  parent_tag_small x seen stands behind = in_table seen.tag (rely.parent x seen stands behind).tag

  -- the tag that it saw at its grandparent
  grandparent_tag_small : (x : ℕ) (seen above : Seen) → (m.worker i).search.node ≡ Some x → (m.worker i).search.parent ≡ Some seen
      → (m.worker i).search.grandparent ≡ Some above → above.tag ≤ m.last_card
  grandparent_tag_small x seen above stands behind over = in_table above.tag (rely.grandparent x seen above stands behind over).tag

  -- the sibling of the leaf of a claimed card
  sibling_node : (c : ℕ) → c < m.words.next → IsTableNode m.last_card (sibling m.words c)
  sibling_node c below =
      let children = (rely.goes c below).parent.children in
      elim (sibling_cases m.words c) [
        | inl e ↦ subst (IsTableNode m.last_card) (sym e) (born_node (m.words.child (m.words.p c) false) (children false).0)
        | inr e ↦ subst (IsTableNode m.last_card) (sym e) (born_node (m.words.child (m.words.p c) true) (children true).0)
      ]

  -- by the invariant all that an event's code looks at is of the table
  pub scene_fits : SceneFits m.last_card (scene m i)
  scene_fits = record {
    words = record { gp = gp_inner; p = p_inner; tags = tag_small };
    worker = record {
      node = λ x at. born_node x (rely.stands x at);
      card = λ c holds. in_table c (rely.hand c holds);
      parent = parent_inner;
      grandparent = grandparent_inner;
      parent_tag = parent_tag_small;
      grandparent_tag = grandparent_tag_small;
      facts = λ f knows. in_table _ (rely.known f knows);
      owned = rely.owned;
    };
    siblings = λ c knows. sibling_node c (rely.known (Marked c) knows);
  }
