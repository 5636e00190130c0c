use Rattle.std.proofs.Common.{◌≡◌, ◌≢◌, ℕ, ◌<◌, ◌↔◌, true, [], ◌∷◌, ◌++◌, inl, inr, refl, sym, ap, ◌∙◌, subst, arith}
use Rattle.ell_core.specs.declared.exchange.Exchange.TheVariants as exchange
use Rattle.ell_core.specs.declared.event.Act.TheVariants as act
use Rattle.ell_core.specs.declared.event.Stepped.{Stepped}
use Rattle.ell_core.specs.declared.event.Stepped.TheVariants.{Won, Lost}
use Rattle.ell_core.specs.declared.fact.Fact.TheVariants.{Marked, Cut}
use Rattle.ell_layout.specs.Words.{Words, relinked}
use Rattle.ell_core.specs.state.Facts.{card_of_fact, learned}
use Rattle.ell_core.specs.state.Machine.{Worker, Machine, Scene, scene, with_scene}
use Rattle.ell_layout.specs.Cards.{sibling}
use Rattle.ell_core.specs.acts.Exchanges.{knowing, DChild, expected}
use Rattle.ell_core.specs.acts.Events.{Happens}
use Rattle.ell_core.specs.history.Stages.{Stages, DMarked, DCut, is_cut}
use Rattle.ell_core.specs.history.Invariant.{LeadsTo, LeadsToValue, delete_key, WordsAreSound, Invariant}
use Rattle.ell_core.proofs.lemmas.tree.Reached.{leads_any}
use Rattle.ell_core.specs.history.Later.{Follows, wins_of}
use Rattle.ell_layout.proofs.lemmas.Writes.{put_same}
use Rattle.ell_core.proofs.lemmas.stages.Order.{cut-marked, marked_cases}
use Rattle.ell_core.proofs.lemmas.keeping.Learning.{KnowsAllowed, learns_fact, takes_on_knowing, follows_knowing}
use Rattle.ell_core.proofs.lemmas.keeping.OneWorker.{keeps_worker}
use Rattle.ell_core.proofs.lemmas.keeping.delete_child.Stages.{cut_stages, cut_stages_later}
use Rattle.ell_core.proofs.lemmas.keeping.delete_child.Tree.{cut_words, CutsAt, cuts_at, CutTree, cut_tree}
use Rattle.ell_core.proofs.lemmas.keeping.delete_child.Words.{cut_words_later, cut_words_sound, unborn_says}
use Rattle.ell_core.proofs.lemmas.keeping.delete_child.Workers.{cut_workers_sound}
use Rattle.ell_core.proofs.lemmas.stages.Kinds.{kinds_later}
use Rattle.ell_core.proofs.lemmas.keeping.SameOutcome.{follows_as}
use Rattle.ell_core.proofs.lemmas.words.Exchanged.{child_found, child_missed}
use Rattle.ell_core.proofs.lemmas.stages.Advances.{wins_put}
use Rattle.ell_core.proofs.lemmas.keeping.KeepsInvariant.{KeepsInvariant}
use Rattle.ell_core.proofs.lemmas.words.Sides.{delete_value}

-- won is not lost
won_not_lost : Won ≢ Lost
won_not_lost e = cc

-- the worker knows that the card has cut
abbrev pub knows_cut : Worker → ℕ → Worker
knows_cut v c = knowing v (learned v.knows (Cut c))

-- the worker knows that the card has cut, and the words are these
abbrev pub cut_scene : Scene → ℕ → Words → Scene
cut_scene s c words = record { words = words; worker = knows_cut s.worker c }

-- where the card is marked and has not cut yet, the exchange is won
pub dchild-won : (c : ℕ) (s : Scene) (stage : Stages) (said : Stepped) (becomes : Scene) → CutsAt s.words stage c
    → DChild c s said becomes → (said ≡ Won) × (becomes ≡ cut_scene s c (cut_words s.words c))
dchild-won c s stage said becomes at row =
    let w = s.words in
    let found = child_found w (w.gp c) (expected w c (w.p c)) (sibling w c) (ap (w.tag (w.gp c)) at.side ∙ at.tagged)
    (ap (w.child (w.gp c)) at.side ∙ at.waits) in
    let words = found.1 ∙ ap (λ side. relinked w (w.gp c) side (sibling w c)) at.side in
    (row.says ∙ found.0, row.gives ∙ ap (cut_scene s c) words)

-- where it has cut, the exchange is lost
pub dchild-lost : (c : ℕ) (s : Scene) (stage : Stages) (said : Stepped) (becomes : Scene) → WordsAreSound s.words stage
    → is_cut (stage c) ≡ true → DChild c s said becomes → (said ≡ Lost) × (becomes ≡ cut_scene s c s.words)
dchild-lost c s stage said becomes sound cut row =
    let w = s.words in
    let does = sound.deletes c in
    let side = (does.marked (cut-marked (stage c) cut)).side in
    let past = (does.cut cut).past in
    let missed = child_missed w (w.gp c) (expected w c (w.p c)) (sibling w c)
    (λ e. (let found = ap (w.tag (w.gp c)) (sym side) ∙ e in omega arith)) in
    (row.says ∙ missed.0, row.gives ∙ ap (cut_scene s c) missed.1)

-- the machine with the words after
abbrev cut_machine : Machine → ℕ → Machine
cut_machine m c = record m { words = cut_words m.words c }

-- the invariant holds of it
cut_sound : (c : ℕ) (m : Machine) (stage : Stages) → Invariant m stage → stage c ≡ DMarked → CutsAt m.words stage c
    → Invariant (cut_machine m c) (cut_stages stage c)
cut_sound c m stage sound now at = let tree = cut_tree m.words stage sound.words c at in record {
  words = cut_words_sound m.words stage sound.words c now at tree;
  workers = cut_workers_sound m stage sound c now at tree;
  limit = sound.limit;
  kinds = kinds_later m.words (cut_words m.words c) stage (cut_stages stage c) (cut_words_later m.words stage c at) (cut_stages_later stage c now)
      (inl refl) sound.kinds;
}

-- worker i may learn that the card has cut
cut_allowed : (c : ℕ) (m : Machine) (stage : Stages) (i : ℕ) → Invariant m stage → stage c ≡ DMarked
    → KnowsAllowed (cut_stages stage c) (knows_cut (m.worker i) c).knows
cut_allowed c m stage i sound now = learns_fact (cut_stages stage c) (m.worker i).knows (Cut c)
    (λ fact h. (cut_stages_later stage c now).told fact (card_of_fact fact) ((sound.workers.each i).facts fact h))
    (ap is_cut (put_same stage c DCut))

-- the won exchange leads to a state of the invariant
won-follows : (c : ℕ) (m : Machine) (stage : Stages) (i : ℕ) → i < m.count → Invariant m stage → stage c ≡ DMarked
    → CutsAt m.words stage c
    → Follows m stage (act.DChild c) i Won (with_scene m i (cut_scene (scene m i) c (cut_words m.words c)))
won-follows c m stage i there sound now at =
    let cut = cut_sound c m stage sound now at in
    let known = (knows_cut (m.worker i) c).knows in
    record {
      stages = cut_stages stage c;
      invariant = keeps_worker (cut_machine m c) (cut_stages stage c) i (knows_cut (m.worker i) c) there cut
          (takes_on_knowing (cut_machine m c) (cut_stages stage c) i known cut (cut_allowed c m stage i sound now));
      words = cut_words_later m.words stage c at;
      later = cut_stages_later stage c now;
      unborn = λ d below out. unborn_says m.words stage sound.words c now at (cut_tree m.words stage sound.words c at) d out;
      wins = wins_put stage c DCut exchange.DChild (ap (λ s. wins_of s ++ exchange.DChild ∷ []) (sym now));
    }

-- the lost exchange leads to a state of the invariant
lost-follows : (c : ℕ) (m : Machine) (stage : Stages) (i : ℕ) → i < m.count → Invariant m stage → is_cut (stage c) ≡ true
    → Follows m stage (act.DChild c) i Lost (with_scene m i (cut_scene (scene m i) c m.words))
lost-follows c m stage i there sound cut =
    follows_knowing m stage (act.DChild c) i Lost (learned (m.worker i).knows (Cut c)) there sound (λ d. refl)
    (learns_fact stage (m.worker i).knows (Cut c) ((sound.workers.each i).facts) cut)

-- the delete's child exchange keeps the invariant
pub keeps_dchild : (c : ℕ) → KeepsInvariant (act.DChild c)
keeps_dchild c m stage i said becomes there sound happens =
    elim (marked_cases (stage c) ((sound.workers.each i).facts (Marked c) happens.row.may)) [
      | inl now ↦
          let at = cuts_at m.words stage sound.words c now in
          let row = dchild-won c (scene m i) stage said becomes at happens.row in
          follows_as m stage (act.DChild c) i said Won becomes (cut_scene (scene m i) c (cut_words m.words c)) row.0 row.1
          (won-follows c m stage i there sound now at)
      | inr cut ↦
          let row = dchild-lost c (scene m i) stage said becomes sound.words cut happens.row in
          follows_as m stage (act.DChild c) i said Lost becomes (cut_scene (scene m i) c m.words) row.0 row.1
          (lost-follows c m stage i there sound cut)
    ]

-- a key was in the tree with this value, and is in it no longer; every other key is as it was, with its value
pub record LosesPair (old new : Words) (key value : ℕ) : Type 0 where
  pub had : LeadsToValue old key value 0
  pub each : (k v : ℕ) → LeadsToValue new k v 0 ↔ (LeadsToValue old k v 0 × (k ≢ key))

-- the child exchange of a marked delete takes its key with its value from the tree
cut-loses_pair : (w : Words) (stage : Stages) (c : ℕ) → CutTree w stage c → LosesPair w (cut_words w c) (delete_key w c) (delete_value w c)
cut-loses_pair w stage c tree = record {
  had = tree.there;
  each = λ k v. (λ l. ((tree.leads k v 0 (other k v l)).0 l, other k v l), λ h. (tree.leads k v 0 h.1).1 h.0);
}
  where
    other : (k v : ℕ) → LeadsToValue (cut_words w c) k v 0 → k ≢ delete_key w c
    other k v l e = tree.gone (subst (λ j. LeadsTo (cut_words w c) j 0) e (leads_any (cut_words w c) k v 0 l))

-- a won child exchange takes the delete's key with its value from the tree
pub dchild-loses_pair : (c : ℕ) (m : Machine) (stage : Stages) (i : ℕ) (becomes : Scene) → Invariant m stage
    → Happens m.last_card (act.DChild c) (scene m i) Won becomes → LosesPair m.words becomes.words (delete_key m.words c) (delete_value m.words c)
dchild-loses_pair c m stage i becomes sound happens =
    elim (marked_cases (stage c) ((sound.workers.each i).facts (Marked c) happens.row.may)) [
      | inl now ↦
          let at = cuts_at m.words stage sound.words c now in
          let won = dchild-won c (scene m i) stage Won becomes at happens.row in
          subst (λ (b : Scene). LosesPair m.words b.words (delete_key m.words c) (delete_value m.words c)) (sym won.1)
          (cut-loses_pair m.words stage c (cut_tree m.words stage sound.words c at))
      | inr cut ↦
          let lost = (dchild-lost c (scene m i) stage Won becomes sound.words cut happens.row).0 in
          absurd (won_not_lost lost)
    ]

-- a lost one changes no word
pub dchild-lost_same : (c : ℕ) (m : Machine) (stage : Stages) (i : ℕ) (becomes : Scene) → Invariant m stage
    → Happens m.last_card (act.DChild c) (scene m i) Lost becomes → becomes.words ≡ m.words
dchild-lost_same c m stage i becomes sound happens =
    elim (marked_cases (stage c) ((sound.workers.each i).facts (Marked c) happens.row.may)) [
      | inl now ↦
          let at = cuts_at m.words stage sound.words c now in
          absurd (won_not_lost (sym (dchild-won c (scene m i) stage Lost becomes at happens.row).0))
      | inr cut ↦ ap (λ (s : Scene). s.words) (dchild-lost c (scene m i) stage Lost becomes sound.words cut happens.row).1
    ]
