-- What a pass sees of the history in a look.
use Rattle.std.proofs.Common.{ℕ, ◌<◌, ◌+◌, Option, Some, None, List, [], ◌∷◌, length, refl, sym, ap, ◌∙◌, subst, arith, append-nil}
use lib.ListN.{get_elem?}
use Rattle.ell_ops.specs.Contents.{Contents, contents_of}
use Rattle.ell_runs.specs.declared.view.Event.{Event}
use Rattle.ell_runs.specs.declared.view.Event.TheVariants.{Looks}
use Rattle.ell_runs.specs.declared.view.Sight.{Sight}
use Rattle.ell_runs.specs.Linearizing.{Item}
use Rattle.ell_runs.specs.LookPlaces.{FindsHavePlaces, SawLookBegin, SeesEachFound, SeesLookSo, SeesMoreInLook}
use Rattle.ell_runs.specs.Looking.{HasFound, HasFoundBetween}
use Rattle.ell_cards.specs.Models.{Counts, PassModel}
use Rattle.ell_runs.specs.Plans.{TablePlan, flat_from}
use Rattle.ell_runs.specs.Seeing.{HasSeenMore, SeesLook}
use Rattle.ell_runs.proofs.lemmas.runs.LinearizingAnswers.{behind}
use Rattle.ell_cards.proofs.lemmas.whole.Seeing.{at_more}
use Rattle.ell_tree.proofs.lemmas.Sights.{part_short, part_trans}
use Rattle.ell_tree.specs.LookPlaces.{SeesAround, SeesLast, SeesNext, SeesScan, SeesThere, StandsAmong}
use Rattle.ell_tree.specs.Ledgers.{TreeModel}
use Rattle.ell_tree.specs.declared.cursor.About.{About}
use Rattle.ell_tree.specs.Scans.{HasFoundLast, HasFoundNext, HaveFound}

-- a pass that has seen more, and more
pub seen_no_more : (p : Sight) → HasSeenMore p p
seen_no_more p = record { more = ([], sym (append-nil p.seen)); mine = refl }

pub seen_more_trans : (p q r : Sight) → HasSeenMore p q → HasSeenMore q r → HasSeenMore p r
seen_more_trans p q r g h = record { more = part_trans p.seen q.seen r.seen g.more h.more; mine = h.mine ∙ g.mine }

pub in_look_none : (p : Sight) → SeesMoreInLook p p
in_look_none p = record { more = seen_no_more p; begun = refl; looked = refl }

pub in_look_trans : (p q r : Sight) → SeesMoreInLook p q → SeesMoreInLook q r → SeesMoreInLook p r
in_look_trans p q r g h = record { more = seen_more_trans p q r g.more h.more; begun = h.begun ∙ g.begun; looked = h.looked ∙ g.looked }

-- a look begins
pub look_more : (p q : Sight) → SeesLook p q → HasSeenMore p q
look_more p q l = record { more = part_trans p.seen l.before q.seen l.more (Looks l.seat ∷ [], l.seen); mine = l.mine }

pub saw_begin : (p q : Sight) → SeesLook p q → SawLookBegin p q
saw_begin p q l = record {
  seat = l.seat;
  began = length l.before;
  looked = l.looked;
  there = ap (λ (h : List Event). get_elem? h (length l.before)) l.seen ∙ behind l.before (Looks l.seat ∷ []) 0 (length l.before) (omega arith);
  behind = part_short p.seen l.before l.more;
}

-- and goes on
pub saw_on : (p q r : Sight) → SawLookBegin p q → SeesMoreInLook q r → SawLookBegin p r
saw_on p q r b h = record {
  seat = b.seat;
  began = b.began;
  looked = h.looked ∙ b.looked;
  there = ap (λ (l : List Event). get_elem? l b.began) h.more.more.1 ∙ at_more q.seen h.more.more.0 b.began (Looks b.seat) b.there;
  behind = b.behind;
}

-- steps that are counted once they have been made change nothing of it
pub places_counted : (plan : TablePlan) (p q : PassModel) (k : ℕ) → Counts p q k → FindsHavePlaces plan p.view p.sight → FindsHavePlaces plan q.view q.sight
places_counted plan p q k s f = subst (λ (m : PassModel). FindsHavePlaces plan m.view m.sight) (sym s) f

-- what it has found has its place
module _ (t : TreeModel) (p q : PassModel) (saw : SawLookBegin p.sight q.sight) (more : HasSeenMore p.sight q.sight) (f : FindsHavePlaces t.plan q.view q.sight) where
  sees_so : (so : List Event → List Item → ℕ → Type 0) → so q.sight.seen f.linear.order saw.began → SeesLookSo (contents_of t.plan.start) so p.sight q.sight
  sees_so so is = record {
    seat = saw.seat;
    began = saw.began;
    behind = saw.behind;
    there = saw.there;
    more = more.more;
    mine = more.mine;
    linear = f.linear;
    is = is;
  }

  pub sees_there : (key : ℕ) (there : Option ℕ) → HasFound q.view key there → SeesThere t key there p q
  sees_there key there found = sees_so _ (f.keys saw.began saw.looked key there found)

  pub sees_around : (about : About) → HasFoundBetween (flat_from t.plan) q.view about.low about.high about.found → SeesAround t about p q
  sees_around about found = sees_so _ (f.stretches saw.began saw.looked about.low about.high about.found found)

  sees_each : (from upto : ℕ) (there : Contents) → HaveFound q.view from upto there → SeesEachFound (contents_of t.plan.start) from upto there p.sight q.sight
  sees_each from upto there found = sees_so _ (λ key least most. f.keys saw.began saw.looked key (there key) (found key least most))

  among : (pair : ℕ × ℕ) (from upto : ℕ) → HasFound q.view pair.0 (Some pair.1) → HaveFound q.view from upto (λ key. None) → StandsAmong (contents_of t.plan.start) pair from upto q.sight.seen f.linear.order saw.began
  among pair from upto found none = (
    f.keys saw.began saw.looked pair.0 (Some pair.1) found,
    λ key least most. f.keys saw.began saw.looked key None (none key least most),
  )

  pub sees_next : (from : ℕ) (there : Option (ℕ × ℕ)) → HasFoundNext q.view from there → SeesNext t from there p q
  sees_next from None found = sees_each from _ _ found
  sees_next from (Some pair) found = sees_so _ (found.0, among pair from pair.0 found.1 found.2)

  pub sees_last_key : (upto : ℕ) (there : Option (ℕ × ℕ)) → HasFoundLast q.view upto there → SeesLast t upto there p q
  sees_last_key upto None found = sees_each 0 upto _ found
  sees_last_key upto (Some pair) found = sees_so _ (found.0, among pair (pair.0 + 1) upto found.1 found.2)

-- if the scan came by a key
pub sees_scan : (t : TreeModel) (p q : PassModel) → SawLookBegin p.sight q.sight → HasSeenMore p.sight q.sight → (from end : ℕ) (there : Contents) → (from < end → FindsHavePlaces t.plan q.view q.sight)
    → HaveFound q.view from end there → SeesScan t from end there p q
sees_scan t p q saw more from end there f found less = sees_each t p q saw more (f less) from end there found
