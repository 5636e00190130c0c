use Rattle.std.proofs.Common.{◌≡◌, ℕ, ◌+◌, ◌≤◌, ◌++◌, true, List, [], ◌∷◌, length, sym, ◌∙◌, ap, subst, arith, append_assoc, length-append}
use Rattle.ell_word.specs.declared.update.Update.{Update}
use Rattle.ell_core.specs.declared.fact.Fact.{Fact}
use Rattle.ell_core.specs.state.Facts.{known_of}
use Rattle.ell_runs.specs.declared.view.Hindrance.{Hindrance}
use Rattle.ell_runs.specs.declared.view.Hindrance.TheVariants.{Found}
use Rattle.ell_runs.specs.declared.view.View.{View}
use Rattle.ell_cards.specs.Models.{PassModel}
use Rattle.ell_tree.specs.Hindrances.{IsEnded, AreOver, StillKnows, Meets}
use Rattle.ell_tree.specs.Keeping.{Keeps, KeepsAllButSearch, KeepsAll}
use Rattle.ell_tree.specs.Tries.{LosesFlag}
use Rattle.ell_tree.proofs.lemmas.Meeting.{meets_none, meets_these, meets_trans, meets_more, over_still, over_together}

-- steps that met nothing
pub keeps_meets : (a b : PassModel) (n : ℕ) → Keeps a b n → b.view.hindrances ≡ a.view.hindrances → Meets a.view b.view
keeps_meets a b n h e = meets_none a.view b.view e h.view.knows

pub seek_meets : (a b : PassModel) (n : ℕ) → KeepsAllButSearch a b n → Meets a.view b.view
seek_meets a b n h = keeps_meets a b n h.keeps h.hindrances

pub walk_meets : (a b : PassModel) (n : ℕ) → KeepsAll a b n → Meets a.view b.view
walk_meets a b n h = keeps_meets a b n h.keeps h.hindrances

pub said_meets : (v w : View) → w.hindrances ≡ v.hindrances → w.worker.knows ≡ v.worker.knows → Meets v w
said_meets v w e facts = meets_none v w e (λ f h. subst (λ (fs : List Fact). known_of fs f ≡ true) (sym facts) h)

-- a flag was lost, and what was found in its place was helped
pub flag_lost : (cards x : ℕ) (u : Update) (t f n : View) → LosesFlag cards x u t f → StillKnows t f → Meets f n → IsEnded n u.state u.card
    → Meets t n × (length t.hindrances + 1 ≤ length n.hindrances)
flag_lost cards x u t f n h k m ended =
    let one = ap length h.hindrances in
    let more = meets_more f n m in (
      record {
        met = m.met ++ (Found u ∷ []);
        list = m.list ∙ (ap (λ hs. m.met ++ hs) h.hindrances ∙ sym (append_assoc m.met (Found u ∷ []) t.hindrances));
        over = over_together n m.met (Found u ∷ []) m.over (ended, tt);
        knows = λ g j. m.knows g (k g j);
      },
      omega (arith, one, more),
    )

-- what stood in the way of a try is met once the next one begins
pub begun_meets : (met : List Hindrance) (u v w : View) → Meets u v → AreOver v met → w.hindrances ≡ met ++ v.hindrances → StillKnows v w → Meets u w
begun_meets met u v w m over e k = meets_trans u v w m (meets_these met v w e (over_still v w met k over) k)

pub begun_count : (met : List Hindrance) (v w : View) → w.hindrances ≡ met ++ v.hindrances → length w.hindrances ≡ length met + length v.hindrances
begun_count met v w e = ap length e ∙ length-append met v.hindrances
