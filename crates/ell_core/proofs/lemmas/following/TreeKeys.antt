use Rattle.std.proofs.Common.{◌≡◌, ◌≢◌, ℕ, ◌==◌, if◌then◌else◌, ◌≤◌, ◌⊎◌, ◌↔◌, inl, inr, Bool, true, false, refl, sym, subst, arith}
use Rattle.ell_ops.specs.Meaning.{greatest_key}
use Rattle.ell_core.specs.declared.event.Act.{Act}
use Rattle.ell_core.specs.declared.event.Act.TheVariants as act
use Rattle.ell_core.specs.declared.event.Stepped.{Stepped}
use Rattle.ell_layout.specs.Words.{Words, with_update}
use Rattle.ell_core.specs.state.Machine.{Scene}
use Rattle.ell_core.specs.acts.Exchanges.{exchanged_update}
use Rattle.ell_core.specs.acts.Events.{Row}
use Rattle.ell_core.specs.tree.Tree.{IsTreePair}
use Rattle.ell_trie.specs.Ranges.{FindsLeaf}
use Rattle.ell_core.specs.history.Stages.{Stages}
use Rattle.ell_core.specs.history.Invariant.{TreeIsSound, LeadsTo, LeadsToValue}
use Rattle.ell_core.specs.statements.Effects.{AddsPair, ReplacesPair, TakesPair, SamePairs}
use Rattle.ell_core.proofs.lemmas.tree.Reached.{tree_key_leads, tree_pair_leads, leads_tree_pair}

-- a key of the tree with its value is a real key to whose leaf the walk from the root leads
pub tree_pair : (w : Words) (stage : Stages) → TreeIsSound w stage → (k v : ℕ) → IsTreePair w k v ↔ ((k ≤ greatest_key) × LeadsToValue w k v 0)
tree_pair w stage tree k v = (λ pair. (pair.real, tree_pair_leads w tree.ordered k v pair), λ h. leads_tree_pair w k v h.0 h.1)

-- keys and values are the same where the same walks lead to them
pub pairs_same : (old new : Words) (stage stages : Stages) → TreeIsSound old stage → TreeIsSound new stages
    → ((k v : ℕ) → LeadsToValue new k v 0 ↔ LeadsToValue old k v 0) → SamePairs old new
pairs_same old new stage stages tree tree' h k v =
    let before = tree_pair old stage tree k v in
    let after = tree_pair new stages tree' k v in
    (λ pair. let g = after.0 pair in before.1 (g.0, (h k v).0 g.1), λ pair. let g = before.0 pair in after.1 (g.0, (h k v).1 g.1))

-- the keys are one more where the walks for one more lead to it
pub pairs_more : (old new : Words) (stage stages : Stages) (key value : ℕ) → TreeIsSound old stage → TreeIsSound new stages → key ≤ greatest_key
    → ¬ LeadsTo old key 0 → ((k v : ℕ) → LeadsToValue new k v 0 ↔ (LeadsToValue old k v 0 ⊎ ((k ≡ key) × (v ≡ value)))) → AddsPair old new key value
pairs_more old new stage stages key value tree tree' real absent h = record {
  absent = λ there. absent (tree_key_leads old tree.ordered key there);
  pairs = λ k v.
      let before = tree_pair old stage tree k v in
      let after = tree_pair new stages tree' k v in (
        λ there. let g = after.0 there in elim ((h k v).0 g.1) [ inl l ↦ inl (before.1 (g.0, l)) | inr e ↦ inr e ],
        λ one. elim one [
          | inl there ↦ (let g = before.0 there in after.1 (g.0, (h k v).1 (inl g.1)))
          | inr e ↦ after.1 (omega (arith, e.0), (h k v).1 (inr e))
        ],
      );
}

-- one pair is another where the walks for its key lead to another value
pub pairs_replaced : (old new : Words) (stage stages : Stages) (key was value : ℕ) → TreeIsSound old stage → TreeIsSound new stages → key ≤ greatest_key
    → LeadsToValue old key was 0 → ((k v : ℕ) → LeadsToValue new k v 0 ↔ ((LeadsToValue old k v 0 × (k ≢ key)) ⊎ ((k ≡ key) × (v ≡ value)))) → ReplacesPair old new key was value
pairs_replaced old new stage stages key was value tree tree' real there h = record {
  present = leads_tree_pair old key was real there;
  pairs = λ k v.
      let before = tree_pair old stage tree k v in
      let after = tree_pair new stages tree' k v in (
        λ pair. let g = after.0 pair in elim ((h k v).0 g.1) [ inl l ↦ inl (before.1 (g.0, l.0), l.1) | inr e ↦ inr e ],
        λ one. elim one [
          | inl both ↦ (let g = before.0 both.0 in after.1 (g.0, (h k v).1 (inl (g.1, both.1))))
          | inr e ↦ after.1 (omega (arith, e.0), (h k v).1 (inr e))
        ],
      );
}

-- the keys are one less where the walks for one no longer lead to it
pub pairs_less : (old new : Words) (stage stages : Stages) (key value : ℕ) → TreeIsSound old stage → TreeIsSound new stages → key ≤ greatest_key
    → LeadsToValue old key value 0 → ((k v : ℕ) → LeadsToValue new k v 0 ↔ (LeadsToValue old k v 0 × (k ≢ key))) → TakesPair old new key value
pairs_less old new stage stages key value tree tree' real there h = record {
  present = leads_tree_pair old key value real there;
  pairs = λ k v.
      let before = tree_pair old stage tree k v in
      let after = tree_pair new stages tree' k v in (
        λ key'. let g = after.0 key' in let l = (h k v).0 g.1 in (before.1 (g.0, l.0), l.1),
        λ both. let g = before.0 both.0 in after.1 (g.0, (h k v).1 (g.1, both.1)),
      );
}

-- words with the same keys and values of nodes and the same children
pub record SameLinks (old new : Words) : Type 0 where
  pub flat : new.flat_from ≡ old.flat_from
  pub key : new.key ≡ old.key
  pub value : new.value ≡ old.value
  pub child : new.child ≡ old.child

-- the same walks lead to keys and values in them
links_lead : (old new : Words) → SameLinks old new → (k v x : ℕ) → LeadsToValue new k v x ≡ LeadsToValue old k v x
links_lead old new same k v x = λ t. FindsLeaf (same.key t) (same.child t) (λ leaf. same.value t leaf ≡ v) k x

-- so the same are led to
pub links_keep : (old new : Words) → SameLinks old new → (k v x : ℕ) → LeadsToValue new k v x ↔ LeadsToValue old k v x
links_keep old new same k v x =
    (λ h. subst (λ (t : Type 0). t) (links_lead old new same k v x) h, λ h. subst (λ (t : Type 0). t) (sym (links_lead old new same k v x)) h)

-- an exchange of an update word keeps keys and children
update_links : (w : Words) (x expected new : ℕ) → SameLinks w (exchanged_update w x expected new)
update_links w x expected new = by_test (w.update x == expected)
  where
    by_test : (won : Bool) → SameLinks w (if won then with_update w x new else w)
    by_test true = record { flat = refl; key = refl; value = refl; child = refl }
    by_test false = record { flat = refl; key = refl; value = refl; child = refl }

-- an act that neither claims a card nor exchanges a child
abbrev pub KeepsLinks : Act → Type 0
KeepsLinks act.Claim = ⊥
KeepsLinks (act.IChild c) = ⊥
KeepsLinks (act.DChild c) = ⊥
KeepsLinks _ = Unit {0}

-- the links of the scene after are those of the scene that it is said to be
links_by : (s after this : Scene) → after ≡ this → SameLinks s.words this.words → SameLinks s.words after.words
links_by s after this is h = subst (λ (t : Scene). SameLinks s.words t.words) (sym is) h

-- such an act keeps keys and children
pub row_links : (a : Act) → KeepsLinks a → (s : Scene) (said : Stepped) (after : Scene) → Row a s said after → SameLinks s.words after.words
row_links (act.Begin op) h s said after r = links_by s after _ r.gives (record { flat = refl; key = refl; value = refl; child = refl })
row_links act.Upd h s said after r = links_by s after _ r.gives (record { flat = refl; key = refl; value = refl; child = refl })
row_links act.Down h s said after r = links_by s after _ r.gives (record { flat = refl; key = refl; value = refl; child = refl })
row_links act.Claim h s said after r = absurd h
row_links act.IFlag h s said after r = links_by s after _ r.gives (update_links s.words _ _ _)
row_links act.DFlag h s said after r = links_by s after _ r.gives (update_links s.words _ _ _)
row_links (act.IChild c) h s said after r = absurd h
row_links (act.IUnflag c) h s said after r = links_by s after _ r.gives (update_links s.words _ _ _)
row_links (act.Mark c) h s said after r = links_by s after _ r.gives (update_links s.words _ _ _)
row_links (act.DChild c) h s said after r = absurd h
row_links (act.DUnflag c) h s said after r = links_by s after _ r.does.gives (update_links s.words _ _ _)
row_links (act.Backtrack c) h s said after r = links_by s after _ r.does.gives (update_links s.words _ _ _)
row_links act.Again h s said after r = links_by s after _ r.gives (record { flat = refl; key = refl; value = refl; child = refl })
row_links act.Leave h s said after r = links_by s after _ r.gives (record { flat = refl; key = refl; value = refl; child = refl })
row_links act.Answer h s said after r = links_by s after _ r.gives (record { flat = refl; key = refl; value = refl; child = refl })
