use Rattle.std.proofs.Common.{◌≡◌, ℕ, ◌==◌, Some, refl, sym, ap, ◌∙◌, inl, inr}
use Rattle.std.proofs.lemmas.Bool.{cases_Bool, false≢true}
use Rattle.ell_ops.specs.declared.op.Op.{Op}
use Rattle.ell_core.specs.acts.Searching.{put_of}
use Rattle.ell_ops.specs.declared.op.Op.TheVariants.{Delete}
use Rattle.ell_core.specs.declared.event.Stepped.{Stepped}
use Rattle.ell_core.specs.declared.fact.Fact.{Fact}
use Rattle.ell_core.specs.declared.fact.Fact.TheVariants.{IFlagged, IChanged, IOver, DFlagged, Marked, Unmarkable, Cut, DOver, Backed}
use Rattle.ell_core.specs.declared.put.Put.{Put}
use Rattle.ell_core.specs.declared.view.Seen.{Seen}
use Rattle.ell_layout.specs.Cards.{iflag, dflag, marked, clean, sibling, brought}
use Rattle.ell_core.specs.state.Facts.{learned}
use Rattle.ell_core.specs.state.Machine.{Scene}
use Rattle.ell_core.specs.acts.Exchanges.{won_or_lost, exchanged_update, finds_link, expected, exchanged_child, knowing, flags, mark_teaches, IFlag, DFlag, IChild, IUnflag, Mark, DChild, DUnflag, Backtrack}
use Rattle.ell_core.proofs.lemmas.outcomes.Decide.{Settled, ap2, cases_option, cases_put, cases_delete, same_value, some_not_none}

-- what a flag exchange at this node says
abbrev flag_says : Scene → Seen → Stepped
flag_says s seen = won_or_lost (s.words.update seen.node == seen.word)

-- the scene after an insert's flag exchange
abbrev iflagged : Scene → ℕ → Seen → Scene
iflagged s card parent = flags s parent (iflag card) (IFlagged card)

-- the scene after a delete's flag exchange
abbrev dflagged : Scene → ℕ → Seen → Scene
dflagged s card grandparent = flags s grandparent (dflag card) (DFlagged card)

-- iflag by an insert or a swap in hand has one outcome or none
settles_iflag_of : (s : Scene) (op : Op) (what : Put) → s.worker.operation ≡ Some op → put_of op ≡ Some what → Settled (IFlag s)
settles_iflag_of s op what busy puts = elim (cases_option s.worker.card) [
  | inr e ↦ inr (λ said after r. some_not_none r.holds e)
  | inl c ↦ elim (cases_Bool s.worker.flagged) [
    | inl f ↦ inr (λ said after r. false≢true (sym r.unflagged ∙ f))
    | inr unflagged ↦ elim (cases_option s.worker.search.parent) [
      | inr e ↦ inr (λ said after r. some_not_none r.behind e)
      | inl p ↦ inl (record {
        said = flag_says s p.0;
        after = iflagged s c.0 p.0;
        row = record { op = op; what = what; card = c.0; parent = p.0; busy = busy; puts = puts; holds = c.1; unflagged = unflagged; behind = p.1; says = refl; gives = refl };
        only = λ other later r. (let same = same_value r.behind p.1 in (r.says ∙ ap (flag_says s) same, r.gives ∙ ap2 (iflagged s) (same_value r.holds c.1) same));
      })
    ]
  ]
]

-- iflag has one outcome or none
pub settles_iflag : (s : Scene) → Settled (IFlag s)
settles_iflag s = elim (cases_option s.worker.operation) [
  | inr e ↦ inr (λ said after r. some_not_none r.busy e)
  | inl o ↦ elim (cases_put o.0) [
    | inr n ↦ inr (λ said after r. some_not_none r.puts (ap put_of (same_value r.busy o.1) ∙ n))
    | inl t ↦ settles_iflag_of s o.0 t.0 o.1 t.1
  ]
]

-- dflag by a delete in hand has one outcome or none
settles_dflag_of : (s : Scene) (key : ℕ) → s.worker.operation ≡ Some (Delete key) → Settled (DFlag s)
settles_dflag_of s key deletes = elim (cases_option s.worker.card) [
  | inr e ↦ inr (λ said after r. some_not_none r.holds e)
  | inl c ↦ elim (cases_Bool s.worker.flagged) [
    | inl f ↦ inr (λ said after r. false≢true (sym r.unflagged ∙ f))
    | inr unflagged ↦ elim (cases_option s.worker.search.grandparent) [
      | inr e ↦ inr (λ said after r. some_not_none r.above e)
      | inl g ↦ inl (record {
        said = flag_says s g.0;
        after = dflagged s c.0 g.0;
        row = record { key = key; card = c.0; grandparent = g.0; deletes = deletes; holds = c.1; unflagged = unflagged; above = g.1; says = refl; gives = refl };
        only = λ other later r. (let same = same_value r.above g.1 in (r.says ∙ ap (flag_says s) same, r.gives ∙ ap2 (dflagged s) (same_value r.holds c.1) same));
      })
    ]
  ]
]

-- dflag has one outcome or none
pub settles_dflag : (s : Scene) → Settled (DFlag s)
settles_dflag s = elim (cases_delete s.worker.operation) [
  | inr n ↦ inr (λ said after r. n r.key r.deletes)
  | inl o ↦ settles_dflag_of s o.0 o.1
]

-- ichild has one outcome or none
pub settles_ichild : (c : ℕ) (s : Scene) → Settled (IChild c s)
settles_ichild c s = elim (cases_Bool (s.worker.knows (IFlagged c))) [
  | inr n ↦ inr (λ said after r. false≢true (sym n ∙ r.may))
  | inl may ↦ inl (record {
    said = won_or_lost (finds_link s.words (s.words.p c) (expected s.words c (s.words.l c)) (brought s.words c));
    after = record {
      words = exchanged_child s.words (s.words.p c) (expected s.words c (s.words.l c)) (brought s.words c);
      worker = knowing s.worker (learned s.worker.knows (IChanged c));
    };
    row = record { may = may; says = refl; gives = refl };
    only = λ other later r. (r.says, r.gives);
  })
]

-- iunflag has one outcome or none
pub settles_iunflag : (c : ℕ) (s : Scene) → Settled (IUnflag c s)
settles_iunflag c s = elim (cases_Bool (s.worker.knows (IChanged c))) [
  | inr n ↦ inr (λ said after r. false≢true (sym n ∙ r.may))
  | inl may ↦ inl (record {
    said = won_or_lost (s.words.update (s.words.p c) == iflag c);
    after = record {
      words = exchanged_update s.words (s.words.p c) (iflag c) (clean c);
      worker = knowing s.worker (learned s.worker.knows (IOver c));
    };
    row = record { may = may; says = refl; gives = refl };
    only = λ other later r. (r.says, r.gives);
  })
]

-- mark has one outcome or none
pub settles_mark : (c : ℕ) (s : Scene) → Settled (Mark c s)
settles_mark c s = elim (cases_Bool (s.worker.knows (DFlagged c))) [
  | inr n ↦ inr (λ said after r. false≢true (sym n ∙ r.may))
  | inl may ↦ inl (record {
    said = won_or_lost (s.words.update (s.words.p c) == s.words.was c);
    after = record {
      words = exchanged_update s.words (s.words.p c) (s.words.was c) (marked c);
      worker = knowing s.worker (mark_teaches s.worker.knows c (s.words.update (s.words.p c) == s.words.was c) (s.words.update (s.words.p c)));
    };
    row = record { may = may; says = refl; gives = refl };
    only = λ other later r. (r.says, r.gives);
  })
]

-- dchild has one outcome or none
pub settles_dchild : (c : ℕ) (s : Scene) → Settled (DChild c s)
settles_dchild c s = elim (cases_Bool (s.worker.knows (Marked c))) [
  | inr n ↦ inr (λ said after r. false≢true (sym n ∙ r.may))
  | inl may ↦ inl (record {
    said = won_or_lost (finds_link s.words (s.words.gp c) (expected s.words c (s.words.p c)) (sibling s.words c));
    after = record {
      words = exchanged_child s.words (s.words.gp c) (expected s.words c (s.words.p c)) (sibling s.words c);
      worker = knowing s.worker (learned s.worker.knows (Cut c));
    };
    row = record { may = may; says = refl; gives = refl };
    only = λ other later r. (r.says, r.gives);
  })
]

-- what taking a delete's flag away says
abbrev dunflag_says : ℕ → Scene → Stepped
dunflag_says c s = won_or_lost (s.words.update (s.words.gp c) == dflag c)

-- the scene after a delete's flag is taken away, with a fact that is learned
abbrev dunflagged : ℕ → Fact → Scene → Scene
dunflagged c fact s = record {
  words = exchanged_update s.words (s.words.gp c) (dflag c) (clean c);
  worker = knowing s.worker (learned s.worker.knows fact);
}

-- dunflag has one outcome or none
pub settles_dunflag : (c : ℕ) (s : Scene) → Settled (DUnflag c s)
settles_dunflag c s = elim (cases_Bool (s.worker.knows (Cut c))) [
  | inr n ↦ inr (λ said after r. false≢true (sym n ∙ r.may))
  | inl may ↦ inl (record {
    said = dunflag_says c s;
    after = dunflagged c (DOver c) s;
    row = record { may = may; does = record { says = refl; gives = refl } };
    only = λ other later r. (r.does.says, r.does.gives);
  })
]

-- backtrack has one outcome or none
pub settles_backtrack : (c : ℕ) (s : Scene) → Settled (Backtrack c s)
settles_backtrack c s = elim (cases_Bool (s.worker.knows (Unmarkable c))) [
  | inr n ↦ inr (λ said after r. false≢true (sym n ∙ r.may))
  | inl may ↦ inl (record {
    said = dunflag_says c s;
    after = dunflagged c (Backed c) s;
    row = record { may = may; does = record { says = refl; gives = refl } };
    only = λ other later r. (r.does.says, r.does.gives);
  })
]
