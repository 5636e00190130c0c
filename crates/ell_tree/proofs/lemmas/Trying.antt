use Rattle.std.proofs.Common.{ℕ, is_some, ◌++◌, Bool, true, false, List, [], length, inl, inr, sym, ap, ◌∙◌, subst, arith}
use Rattle.std.proofs.lemmas.List.{append_cancel_right}
use Rattle.ell_ops.specs.declared.op.Op.{Op}
use Rattle.ell_core.specs.declared.fact.Fact.{Fact}
use Rattle.ell_runs.specs.declared.view.Hindrance.{Hindrance}
use Rattle.ell_runs.specs.Plans.{TablePlan}
use Rattle.ell_cards.specs.Models.{PassModel}
use Rattle.ell_runs.specs.Views.{EndedBy}
use Rattle.ell_tree.specs.declared.searching.Place.{Place}
use Rattle.ell_tree.specs.declared.trying.Tried.{Tried}
use Rattle.ell_tree.specs.declared.trying.Tried.TheVariants.{Answered, Hindered, Spent}
use Rattle.ell_tree.specs.CardsTaken.{TakesOneIf, TryTakes}
use Rattle.ell_tree.specs.Ends.{changes_by, reply_by}
use Rattle.ell_tree.specs.Keeping.{KeepsAllButSearch}
use Rattle.ell_tree.specs.Ledgers.{TreeModel}
use Rattle.ell_tree.specs.Milestones.{SeesMilestone}
use Rattle.ell_tree.specs.Searches.{AtRoot, EndsAt, HasSearched}
use Rattle.ell_tree.specs.Tries.{Halts, TryEnds, TryTook}
use Rattle.ell_cards.proofs.lemmas.views.Steps.{own_trans}
use Rattle.ell_tree.proofs.lemmas.Halting.{seek_meets}
use Rattle.ell_tree.proofs.lemmas.Hindrances.{root_in_try}
use Rattle.ell_tree.proofs.lemmas.Keeping.{share_trans}
use Rattle.ell_tree.proofs.lemmas.Meeting.{meets_trans}
use Rattle.ell_ops.specs.declared.op.Op.TheVariants.{Delete}
use Rattle.ell_ops.specs.Meaning.{yes_if}
use Rattle.ell_tree.proofs.lemmas.Owning.{keeps_answers, takes_before, would_before}
use Rattle.ell_tree.proofs.lemmas.Sights.{ends_from}

-- a search from the root leaves the try as it was: it has met nothing, and has no card
pub searched : (plan : TablePlan) (op : Op) (place : Place) (p q : PassModel) (n : ℕ) → KeepsAllButSearch p q n → AtRoot op p.view → EndsAt plan q.view op place
    → HasSearched plan op place q.view
searched plan op place p q n k at ends = record {
  busy = k.keeps.view.operation ∙ at.busy;
  ends = ends;
  no_card = k.card ∙ at.no_card;
  unmet = append_cancel_right q.view.met [] p.view.hindrances (sym (k.keeps.view.earlier p.view.hindrances (root_in_try op p.view at)) ∙ k.hindrances);
}

-- what a try comes to after its search is what it comes to
module _ (p q r : PassModel) (n : ℕ) (k : KeepsAllButSearch p q n) where
  halts_after : (op : Op) → Halts op q r → Halts op p r
  halts_after op h = record {
    own = own_trans p q r k.keeps.own h.own;
    sight = h.sight ∙ k.keeps.sight;
    ledger = h.ledger ∙ k.keeps.view.ledger;
    share = share_trans p.view q.view r.view k.keeps.view.share h.share;
    meets = meets_trans p.view q.view r.view (seek_meets p q n k) h.meets;
    in_try = h.in_try ∙ ap (λ (hs : List Hindrance). r.view.met ++ hs) k.hindrances;
    way = h.way;
    would = would_before op p q k.keeps.view.ledger h.would;
    stops = h.stops;
  }

  sees_after : (cards : ℕ) → SeesMilestone cards q.view r.view → SeesMilestone cards p.view r.view
  sees_after cards (inl g) = inl (record {
    card = g.card;
    first = g.first;
    last = g.last;
    before = let low = k.keeps.view.least in omega (arith, low, g.before);
    after = g.after;
  })
  sees_after cards (inr e) = inr (record {
    card = e.card;
    first = e.first;
    last = e.last;
    before = subst (λ (fs : List Fact). ¬ EndedBy fs e.card) k.keeps.view.before e.before;
    after = e.after;
    least = let low = k.keeps.view.least in omega (arith, low, e.least);
  })

  pub ends_after : (t : TreeModel) (op : Op) (ended : Tried) → TryEnds t op q r ended → TryEnds t op p r ended
  ends_after t op (Answered had) h =
      (keeps_answers t op (reply_by op had) p q r n k.keeps h.0, meets_trans p.view q.view r.view (seek_meets p q n k) h.1, h.2)
  ends_after t op Spent h = (halts_after op h.0, h.1, h.2)
  ends_after t op Hindered h =
      (halts_after op h.0, (let same = ap length k.hindrances in omega (arith, h.1, same)), sees_after t.plan.last_card h.2, h.3)

  pub took_after : (t : TreeModel) (key : ℕ) (ended : Tried) → TryTook t key q r ended → TryTook t key p r ended
  took_after t key (Answered taken) h =
      (takes_before t key taken p q r k.keeps.view.ledger h.0, ends_from (Delete key) (yes_if (is_some taken)) taken p.sight q.sight r.sight k.keeps.sight h.1)
  took_after t key Spent h = tt
  took_after t key Hindered h = tt

  one_after : (changed : Bool) → TakesOneIf changed q r → TakesOneIf changed p r
  one_after true h = let none = k.taken in omega (arith, h, none)
  one_after false h = h ∙ k.taken

  pub takes_after : (op : Op) (ended : Tried) → TryTakes op q r ended → TryTakes op p r ended
  takes_after op (Answered had) h = one_after (changes_by op had) h
  takes_after op Spent h = h ∙ k.taken
  takes_after op Hindered h = let none = k.taken in record { least = omega (arith, h.least, none); most = omega (arith, h.most, none) }
