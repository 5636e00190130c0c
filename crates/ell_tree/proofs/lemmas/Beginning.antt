use Rattle.std.proofs.Common.{◌++◌, Option, Some, [], refl, sym, ap, subst}
use Rattle.ell_ops.specs.declared.op.Op.{Op}
use Rattle.ell_runs.specs.declared.view.Slots.{Slots}
use Rattle.ell_runs.specs.declared.view.View.{View}
use Rattle.ell_cards.specs.Models.{BeginsBy, EndsBy, PassModel, Steps}
use Rattle.ell_runs.specs.Views.{Does, latest}
use Rattle.ell_runs.specs.Changes.{after_begin, after_again, after_leave, in_the_way, tries_hindered}
use Rattle.ell_runs.specs.Seeing.{SeesBegin}
use Rattle.ell_tree.specs.Hindrances.{way_of}
use Rattle.ell_tree.specs.Tries.{Begins, GivesUp}
use Rattle.ell_cards.proofs.lemmas.views.Steps.{own_same}
use Rattle.ell_tree.proofs.lemmas.Counts.{took_one}

-- an operation that was taken in hand stands at the root
pub begins : (slots : Option Slots) (old new : PassModel) (op : Op) → BeginsBy slots old new (after_begin (Some op) old.view) → SeesBegin op old.sight new.sight
    → Begins op [] old.view.hindered old new
begins slots old new op s sees = subst (λ (m : PassModel). Begins op [] old.view.hindered old m) (sym s) (record {
  own = own_same old;
  ledger = refl;
  calls = sees.mine;
  share = record { share = refl; ownable = refl };
  hindrances = refl;
  hindered = refl;
  knows = λ f h. h;
  before = refl;
  least = refl;
  root = record { busy = refl; root = refl; no_card = refl; met = latest _ _; before = refl; unmet = refl };
  taken = refl;
  took = let one = took_one old (after_begin (Some op) old.view) refl in record { steps = one.steps; made = one.made };
})

-- so does one that starts anew
abbrev anew : Option Op → View → View
anew o v = record (after_begin o v) {
  hindrances = in_the_way o v.worker.search.node v.worker.search.parent v.worker.search.grandparent ++ v.hindrances;
  hindered = tries_hindered v;
}

pub begins_anew : (old new : PassModel) (op : Op) → Steps old new (after_again old.view) → Does old.view op → Begins op (way_of op old.view) (tries_hindered old.view) old new
begins_anew old new op s busy =
    let again = subst (λ (o : Option Op). Steps old new (anew o old.view)) busy s in
    subst (λ (m : PassModel). Begins op (way_of op old.view) (tries_hindered old.view) old m) (sym again) (record {
      own = own_same old;
      ledger = refl;
      calls = refl;
      share = record { share = refl; ownable = refl };
      hindrances = refl;
      hindered = refl;
      knows = λ f h. h;
      before = refl;
      least = refl;
      root = record { busy = refl; root = refl; no_card = refl; met = latest _ _; before = refl; unmet = refl };
      taken = refl;
      took = took_one old (anew (Some op) old.view) refl;
    })

-- an operation that is given up
pub gives_up : (old new : PassModel) (op : Op) → EndsBy old new (after_leave old.view) → Does old.view op → GivesUp op old new
gives_up old new op s busy = subst (λ (m : PassModel). GivesUp op old m) (sym s) (record {
  given_up = busy;
  own = own_same old;
  sight = refl;
  ledger = refl;
  share = record { share = refl; ownable = refl };
  hindrances = ap
      (λ (o : Option Op). in_the_way o old.view.worker.search.node old.view.worker.search.parent old.view.worker.search.grandparent ++ old.view.hindrances)
      busy;
  hindered = refl;
  knows = λ f h. h;
  next = refl;
  facts = refl;
  least = refl;
  idle = refl;
  unpinned = refl;
  no_card = refl;
  taken = refl;
  took = let one = took_one old (after_leave old.view) refl in record { steps = one.steps; made = one.made };
})
