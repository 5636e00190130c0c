use Rattle.std.proofs.Common.{◌≡◌, ℕ, ◌==◌, if◌then◌else◌, inl, inr, Bool, true, false, List, nat_le, refl, sym, ap, ◌∙◌, subst}
use Rattle.ell_core.specs.declared.event.Act.{Act}
use Rattle.ell_core.specs.declared.event.Act.TheVariants as act
use Rattle.ell_core.specs.declared.event.Stepped.{Stepped}
use Rattle.ell_core.specs.declared.fact.Fact.TheVariants.{Marked}
use Rattle.ell_layout.specs.declared.field.Field.{Field}
use Rattle.ell_layout.specs.Words.{Words, is_flat}
use Rattle.ell_layout.specs.Cards.{sibling, claimed, put_filling, value_below, delete_filling}
use Rattle.ell_core.specs.state.Machine.{Machine, Scene, scene}
use Rattle.ell_core.specs.acts.Searching.{claims}
use Rattle.ell_core.specs.acts.Events.{Row}
use Rattle.ell_trie.specs.Ranges.{IsCutOut}
use Rattle.ell_core.specs.history.Stages.{Stages, Born, IClaimed}
use Rattle.ell_core.specs.history.Invariant.{top, IsOut, delete_side, Invariant}
use Rattle.ell_core.proofs.lemmas.stages.Order.{marked_cases}
use Rattle.ell_core.proofs.lemmas.keeping.claim.Filling.{claimed_claims}
use Rattle.ell_core.proofs.lemmas.keeping.claim.Frames.{Claiming, out_kept}
use Rattle.ell_core.proofs.lemmas.keeping.delete_child.DChild.{dchild-won, dchild-lost}
use Rattle.ell_core.proofs.lemmas.keeping.delete_child.Tree.{cuts_at, cut_tree}
use Rattle.ell_core.proofs.lemmas.keeping.insert_child.IChild.{waits_or_made, won_waiting, lost_changed, brings}
use Rattle.ell_core.proofs.lemmas.following.TreeKeys.{KeepsLinks, row_links}

-- the sibling by the parent's children and the leaf
abbrev pub pick : ℕ → ℕ → ℕ → ℕ
pick right left leaf = if right == leaf then left else right

-- where a delete goes as before, and its parent has the children that it had, its sibling is the same
pub sibling_same : (old new : Words) (c : ℕ) → new.p c ≡ old.p c → new.l c ≡ old.l c
    → ((right : Bool) → new.child (old.p c) right ≡ old.child (old.p c) right) → sibling new c ≡ sibling old c
sibling_same old new c p l same =
    let kids : (right : Bool) → new.child (new.p c) right ≡ old.child (old.p c) right = λ right. ap (λ x. new.child x right) p ∙ same right in
    ap (λ n. pick n (new.child (new.p c) false) (new.l c)) (kids true)
    ∙ (ap (λ n. pick (old.child (old.p c) true) n (new.l c)) (kids false)
    ∙ ap (pick (old.child (old.p c) true) (old.child (old.p c) false)) l)

-- and so is the side on which it cuts
pub side_same : (old new : Words) (c : ℕ) → new.gp c ≡ old.gp c → new.l c ≡ old.l c → new.key (old.gp c) ≡ old.key (old.gp c)
    → new.key (old.l c) ≡ old.key (old.l c) → delete_side new c ≡ delete_side old c
side_same old new c gp l key_gp key_l =
    ap (λ n. nat_le n (new.key (new.l c))) (ap new.key gp ∙ key_gp) ∙ ap (nat_le (old.key (old.gp c))) (ap new.key l ∙ key_l)

module _ (m : Machine) (stage : Stages) (i : ℕ) (said : Stepped) (becomes : Scene) (invariant : Invariant m stage) where
  -- a claim brings nothing in
  out_claim : (tag : ℕ) (filling : List (Field × ℕ)) → becomes ≡ claims (scene m i) tag filling → (x : ℕ) → IsOut m.words x → IsOut becomes.words x
  out_claim tag filling is x out =
      let claiming : Claiming m.words (claimed m.words tag filling) stage IClaimed =
      record { words = invariant.words; claims = claimed_claims m.words tag filling; fresh = inl refl } in
      subst (λ (s : Scene). IsOut s.words x) (sym is) (out_kept m.words (claimed m.words tag filling) stage IClaimed claiming x out)

  -- nor does an act that keeps the links
  out_links : (a : Act) → KeepsLinks a → Row a (scene m i) said becomes → (x : ℕ) → IsOut m.words x → IsOut becomes.words x
  out_links a keeps row x out =
      let same = row_links a keeps (scene m i) said becomes row in
      subst (λ (t : Type 0). t) (λ t. IsCutOut (sym same.key t) (sym same.child t) top x) out

  -- and no act brings back what was out
  pub out_by : (a : Act) → Row a (scene m i) said becomes → (x : ℕ) → Born stage x → IsOut m.words x → IsOut becomes.words x
  out_by act.Claim (inl row) x born out =
      out_claim row.parent.tag
      (put_filling (is_flat m.words) m.words.next row.what.key row.what.value row.node_key row.parent.node row.below (m.words.key row.below) (value_below m.words row.below))
      row.gives x out
  out_by act.Claim (inr row) x born out =
      out_claim row.grandparent.tag (delete_filling row.grandparent.node row.parent.node row.leaf row.parent.word) row.gives x out
  out_by (act.IChild c) row x born out = elim (waits_or_made m stage i invariant c row.may) [
    | inl flagged ↦ subst (λ (s : Scene). IsOut s.words x) (sym (won_waiting m stage i invariant c flagged said becomes row).1)
        ((brings m.words stage invariant.words c flagged).out x born out)
    | inr changed ↦ subst (λ (s : Scene). IsOut s.words x) (sym (lost_changed m stage i invariant c changed said becomes row).1) out
  ]
  out_by (act.DChild c) row x born out = elim (marked_cases (stage c) ((invariant.workers.each i).facts (Marked c) row.may)) [
    | inl now ↦
        let at = cuts_at m.words stage invariant.words c now in
        subst (λ (s : Scene). IsOut s.words x) (sym (dchild-won c (scene m i) stage said becomes at row).1)
        ((cut_tree m.words stage invariant.words c at).still_out x out)
    | inr cut ↦ subst (λ (s : Scene). IsOut s.words x) (sym (dchild-lost c (scene m i) stage said becomes invariant.words cut row).1) out
  ]
  out_by (act.Begin op) row x born out = out_links (act.Begin op) tt row x out
  out_by act.Upd row x born out = out_links act.Upd tt row x out
  out_by act.Down row x born out = out_links act.Down tt row x out
  out_by act.IFlag row x born out = out_links act.IFlag tt row x out
  out_by act.DFlag row x born out = out_links act.DFlag tt row x out
  out_by (act.IUnflag c) row x born out = out_links (act.IUnflag c) tt row x out
  out_by (act.Mark c) row x born out = out_links (act.Mark c) tt row x out
  out_by (act.DUnflag c) row x born out = out_links (act.DUnflag c) tt row x out
  out_by (act.Backtrack c) row x born out = out_links (act.Backtrack c) tt row x out
  out_by act.Again row x born out = out_links act.Again tt row x out
  out_by act.Leave row x born out = out_links act.Leave tt row x out
  out_by act.Answer row x born out = out_links act.Answer tt row x out
