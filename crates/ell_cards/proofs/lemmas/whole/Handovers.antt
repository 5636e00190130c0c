use Rattle.std.proofs.Common.{◌≡◌, ◌≢◌, ℕ, zero, suc, ◌≤◌, nat_lt, Bool, false, Some, None, List, [], ◌∷◌, ◌++◌, length, set, inl, inr, ◌⊎◌, refl, sym, ap, ◌∙◌, subst, ⊎_elim, arith, length-set}
use Rattle.std.proofs.lemmas.Bool.{cases_eq, false≢true, false_from_ne_true, ltb-true}
use mathlib.Core.Option.{some, some-injective, some-ne-none}
use lib.ListN.{get_elem?}
use Rattle.atomic_table.proofs.Lists.{at_set, set_else}
use Rattle.ell_core.proofs.lemmas.outcomes.Decide.{some_not_none}
use Rattle.ell_grace.specs.epochs.Grace.{Grace}
use Rattle.ell_grace.specs.epochs.Sound.{GraceIsSound}
use Rattle.ell_layout.specs.Words.{put}
use Rattle.ell_layout.proofs.lemmas.Writes.{put_same, put_other, put_cases}
use Rattle.ell_cards.specs.declared.view.Known.{Known}
use Rattle.ell_cards.specs.declared.view.Participant.{Participant}
use Rattle.ell_runs.specs.declared.view.Slots.{Slots}
use Rattle.ell_runs.specs.declared.view.View.{View}
use Rattle.ell_runs.specs.Plans.{TablePlan}
use Rattle.ell_runs.specs.Changes.{joined_view, spent_view}
use Rattle.ell_cards.specs.Epochs.{WholeState, no_participant, after_give, given_participant, joined_participant, participant_in, pending_by, announcement_says, ParticipantHolds, HasAnnouncement, own, spare, EpochsAreSound, grace_of}
use Rattle.ell_runs.specs.Touching.{IsAtRest}
use Rattle.ell_cards.specs.Ages.{AgesAreSound}
use Rattle.ell_runs.specs.Sights.{given_sight}
use Rattle.ell_runs.specs.States.{TableState}
use Rattle.ell_runs.specs.Turns.{TableTurns, Splits as SplitsInto, Joins as JoinsWith}
use Rattle.ell_cards.specs.Whole.{joined_known, spent_known}
use Rattle.ell_cards.proofs.lemmas.whole.Ages.{AgesOn, Onward, onward, dead_on, still_since, are_retired_on, read_on, lost_on, out_on}
use Rattle.ell_cards.proofs.lemmas.whole.Rests.{is_at_rest}
use Rattle.ell_cards.proofs.lemmas.whole.Seats.{part_same, part_put}
use Rattle.ell_cards.proofs.lemmas.whole.Trees.{grace_same}

-- what is at a place of a list with one more at its end
pub at_end : {A : Type 0} (l : List A) (a b : A) (j : ℕ) → get_elem? (l ++ a ∷ []) j ≡ some b → (get_elem? l j ≡ some b) ⊎ ((j ≡ length l) × (a ≡ b))
at_end [] a b zero e = inr (refl, some-injective a b e)
at_end [] a b (suc j) e = absurd (some-ne-none b (sym e))
at_end (x ∷ xs) a b zero e = inl e
at_end (x ∷ xs) a b (suc j) e = elim (at_end xs a b j e) [
  | inl was ↦ inl was
  | inr new ↦ inr (ap suc new.0, new.1)
]

-- what is known of epochs where a pass came that knows no more of them than nobody
part_more : {A : Type 0} (part : Participant → A) (views : List Known) (k : Known) → part k.participant ≡ part no_participant → (i : ℕ)
    → part (participant_in (views ++ k ∷ []) i) ≡ part (participant_in views i)
part_more part [] k same zero = same
part_more part [] k same (suc i) = refl
part_more part (x ∷ xs) k same zero = refl
part_more part (x ∷ xs) k same (suc i) = part_more part xs k same i

-- a split
module _ (sl : Slots) (t : WholeState) (id : ℕ) (k : Known) (here : get_elem? t.views id ≡ some k) (lie : ℕ → ℕ) (dead : ℕ → Bool) (began : ℕ → ℕ) (was_dead : ℕ → ℕ → Bool)
    (h : EpochsAreSound sl t lie dead began was_dead) (left right : View)
    (left_rests : IsAtRest left) (right_rests : IsAtRest right) (quiet : (q : ℕ) → k.participant.other ≡ Some q → k.participant.other_says ≡ None) where
  abbrev left_known : Known
  left_known = record k { tree = left; participant = after_give k.participant }

  abbrev right_known : Known
  right_known = record { tree = right; participant = given_participant k.participant; sight = given_sight k.sight }

  abbrev parted : WholeState
  parted = record { words = t.words; homes = t.homes; views = set t.views id left_known ++ right_known ∷ [] }

  holds : ParticipantHolds sl t.words k
  holds = h.each id k here

  left_holds : ParticipantHolds sl t.words left_known
  left_holds = record {
    announcement = holds.announcement;
    other = λ q is. absurd (some_not_none is refl);
    two = λ q is other. some_not_none other refl;
    none = holds.none;
    epoch = holds.epoch;
    surveyed = holds.surveyed;
    rests = λ is. left_rests;
    idle = λ c is. left_rests.empty;
  }

  right_holds : ParticipantHolds sl t.words right_known
  right_holds = record {
    announcement = λ q is. (let at = holds.other q is in (at.0, at.1 ∙ ap announcement_says (quiet q is)));
    other = λ q is. absurd (some_not_none is refl);
    two = λ q is other. some_not_none other refl;
    none = λ is. refl;
    epoch = λ n is. absurd (some_not_none is refl);
    surveyed = omega arith;
    rests = λ is. right_rests;
    idle = λ c is. right_rests.empty;
  }

  -- whose a pass's announcement was before the split: the left part has the pass's own, the right part its other one
  pub data Origin (j : ℕ) (u : Known) : Type 0 where
    of_left : j ≡ id → left_known ≡ u → Origin j u
    of_right : j ≡ length t.views → right_known ≡ u → Origin j u
    of_other : j ≢ id → get_elem? t.views j ≡ some u → Origin j u

  origin : (j : ℕ) (u : Known) → get_elem? parted.views j ≡ some u → Origin j u
  origin j u at = elim (at_end (set t.views id left_known) right_known u j at) [
    | inl was ↦ ⊎_elim
        (λ (e : (j ≡ id) × (left_known ≡ u)). of_left e.0 e.1)
        (λ (e : (j ≢ id) × (get_elem? t.views j ≡ some u)). of_other e.0 e.1)
        (at_set t.views id j left_known u was)
    | inr new ↦ of_right (new.0 ∙ length-set t.views id left_known) new.1
  ]

  -- the left part has its own announcement alone, and the right part what was the other one
  left_announcement : (q : ℕ) → HasAnnouncement (after_give k.participant) q → k.participant.announcement ≡ Some q
  left_announcement q (own is) = is
  left_announcement q (spare is) = absurd (some_not_none is refl)

  right_announcement : (q : ℕ) → HasAnnouncement (given_participant k.participant) q → k.participant.other ≡ Some q
  right_announcement q (own is) = is
  right_announcement q (spare is) = absurd (some_not_none is refl)

  -- no announcement has two passes
  one_has : (a b q : ℕ) (x y : Known) → Origin a x → Origin b y → HasAnnouncement x.participant q → HasAnnouncement y.participant q → a ≡ b
  one_has a b q x y (of_left at is) (of_left at' is') has has' = at ∙ sym at'
  one_has a b q x y (of_left at is) (of_right at' is') has has' =
      absurd (holds.two q (left_announcement q (subst (λ (u : Known). HasAnnouncement u.participant q) (sym is) has)) (right_announcement q (subst (λ (u : Known). HasAnnouncement u.participant q) (sym is') has')))
  one_has a b q x y (of_left at is) (of_other apart at') has has' =
      at ∙ h.apart id b q k y here at' (own (left_announcement q (subst (λ (u : Known). HasAnnouncement u.participant q) (sym is) has))) has'
  one_has a b q x y (of_right at is) (of_left at' is') has has' =
      absurd (holds.two q (left_announcement q (subst (λ (u : Known). HasAnnouncement u.participant q) (sym is') has')) (right_announcement q (subst (λ (u : Known). HasAnnouncement u.participant q) (sym is) has)))
  one_has a b q x y (of_right at is) (of_right at' is') has has' = at ∙ sym at'
  one_has a b q x y (of_right at is) (of_other apart at') has has' =
      absurd (apart (sym (h.apart id b q k y here at' (spare (right_announcement q (subst (λ (u : Known). HasAnnouncement u.participant q) (sym is) has))) has')))
  one_has a b q x y (of_other apart at) (of_left at' is') has has' =
      h.apart a id q x k at here has (own (left_announcement q (subst (λ (u : Known). HasAnnouncement u.participant q) (sym is') has'))) ∙ sym at'
  one_has a b q x y (of_other apart at) (of_right at' is') has has' =
      absurd (apart (h.apart a id q x k at here has (spare (right_announcement q (subst (λ (u : Known). HasAnnouncement u.participant q) (sym is') has')))))
  one_has a b q x y (of_other apart at) (of_other apart' at') has has' = h.apart a b q x y at at' has has'

  each_holds : (j : ℕ) (u : Known) → Origin j u → ParticipantHolds sl t.words u
  each_holds j u (of_left at is) = subst (ParticipantHolds sl t.words) is left_holds
  each_holds j u (of_right at is) = subst (ParticipantHolds sl t.words) is right_holds
  each_holds j u (of_other apart at) = h.each j u at

  -- the left part is pinned as the pass was, and the right part is not
  since_origin : (j q a : ℕ) (u : Known) → Origin j u → u.participant.announcement ≡ Some q → u.participant.announced ≡ Some a → began q ≡ u.participant.began
  since_origin j q a u (of_left at is) = subst (λ (x : Known). x.participant.announcement ≡ Some q → x.participant.announced ≡ Some a → began q ≡ x.participant.began) is (h.since id q a k here)
  since_origin j q a u (of_right at is) = λ placed an. absurd (some_not_none (ap (λ (x : Known). x.participant.announced) is ∙ an) refl)
  since_origin j q a u (of_other apart at) = h.since j q a u at

  part_parted : {A : Type 0} (part : Participant → A) → part (after_give k.participant) ≡ part k.participant → part (given_participant k.participant) ≡ part no_participant → (i : ℕ)
      → part (participant_in parted.views i) ≡ part (participant_in t.views i)
  part_parted part same new i = part_more part (set t.views id left_known) right_known new i ∙ part_same t.views id k here left_known part same i

  pub split_epochs : EpochsAreSound sl parted lie dead began was_dead
  split_epochs = record {
    sound = grace_same sl.announcements (grace_of sl t lie dead began was_dead) (grace_of sl parted lie dead began was_dead)
        refl (λ c. refl) (λ q. refl) (λ q. refl) (λ q c. refl)
        (part_parted (λ p. pending_by p.retire_epoch) refl refl)
        (part_parted (λ p. p.least) refl refl)
        (λ i q. part_parted (λ p. nat_lt q p.looked) refl refl i)
        (part_parted (λ p. p.safe_epoch) refl refl)
        (λ c. refl) h.sound;
    low = h.low;
    each = λ j u at. each_holds j u (origin j u at);
    since = λ j q a u at. since_origin j q a u (origin j u at);
    apart = λ a b q x y at at' has has'. one_has a b q x y (origin a x at) (origin b y at') has has';
  }

-- the ages after a split, whose parts are both at rest
module _ (plan : TablePlan) (s : Slots) (tree tree' : TableState) (t : WholeState) (id : ℕ) (k : Known) (here : get_elem? t.views id ≡ some k) (keys : List ℕ) (turn : TableTurns plan tree (SplitsInto id keys) tree')
    (left right : Known) (left_rests : IsAtRest left.tree) (right_rests : IsAtRest right.tree) (left_read : left.participant.read ≡ k.participant.read) (right_read : right.participant.read ≡ None)
    (left_lost : left.participant.lost ≡ k.participant.lost) (right_lost : right.participant.lost ≡ None)
    (lie : ℕ → ℕ) (dead : ℕ → Bool) (was_dead : ℕ → ℕ → Bool) where
  pub ages_after_split : (h : AgesAreSound plan s tree t lie dead was_dead)
      → AgesOn plan s tree t lie dead was_dead h (SplitsInto id keys) tree' (record { words = t.words; homes = t.homes; views = set t.views id left ++ right ∷ [] })
  ages_after_split h = record {
    ages = record {
      now = dead_on plan tree dead h.now (SplitsInto id keys) tree' on;
      still = h.still;
      since = λ seat q a u at placed an. elim (at_end (set t.views id left) right u seat at) [
        | inl was ↦ ⊎_elim
            (λ (e : (seat ≡ id) × (left ≡ u)). inl (subst (λ (x : Known). IsAtRest x.tree) e.1 left_rests))
            (λ (e : (seat ≢ id) × (get_elem? t.views seat ≡ some u)).
            still_since plan tree seat (was_dead q) u.tree (SplitsInto id keys) tree' turn (h.since seat q a u e.1 placed an))
            (at_set t.views id seat left u was)
        | inr new ↦ inl (subst (λ (x : Known). IsAtRest x.tree) new.1 right_rests)
      ];
      retired_out = are_retired_on plan s tree tree' t lie dead was_dead h (SplitsInto id keys) on t.words (λ slot low. refl);
      read = λ seat u r at has. elim (at_end (set t.views id left) right u seat at) [
        | inl was ↦ ⊎_elim
            (λ (e : (seat ≡ id) × (left ≡ u)). read_on plan s tree tree' t lie dead was_dead h (SplitsInto id keys) on t.words (λ slot low. refl) id k r here (sym left_read ∙ (ap (λ (x : Known). x.participant.read) e.1 ∙ has)))
            (λ (e : (seat ≢ id) × (get_elem? t.views seat ≡ some u)). read_on plan s tree tree' t lie dead was_dead h (SplitsInto id keys) on t.words (λ slot low. refl) seat u r e.1 has)
            (at_set t.views id seat left u was)
        | inr new ↦ λ i is. absurd (some_not_none (ap (λ (x : Known). x.participant.read) new.1 ∙ has) right_read)
      ];
      lost = λ seat c u at has. elim (at_end (set t.views id left) right u seat at) [
        | inl was ↦ ⊎_elim
            (λ (e : (seat ≡ id) × (left ≡ u)). lost_on plan s tree tree' t lie dead was_dead h (SplitsInto id keys) on id c k here (sym left_lost ∙ (ap (λ (x : Known). x.participant.lost) e.1 ∙ has)))
            (λ (e : (seat ≢ id) × (get_elem? t.views seat ≡ some u)). lost_on plan s tree tree' t lie dead was_dead h (SplitsInto id keys) on seat c u e.1 has)
            (at_set t.views id seat left u was)
        | inr new ↦ absurd (some_not_none (ap (λ (x : Known). x.participant.lost) new.1 ∙ has) right_lost)
      ];
    };
    out = λ x is. out_on plan tree h.now.machine h.now.uses (SplitsInto id keys) tree' on x is;
    words = on.words;
    later = on.later;
    wins = on.wins;
  }
    where
      on : Onward plan tree h.now.machine h.now.uses (SplitsInto id keys) tree'
      on = onward plan tree h.now.machine h.now.uses h.now.same (SplitsInto id keys) tree' turn

-- whoever has seen nothing of the others' announcements, and is about to free no card, knows nothing wrong of them
reset : (announcements : ℕ) (w : Grace) (i : ℕ) → GraceIsSound announcements w
    → GraceIsSound announcements (record w { pending = put w.pending i None; least = put w.least i 0; seen = put w.seen i (λ q. false); safe_epoch = put w.safe_epoch i 0 })
reset announcements w i h = record {
  inside = h.inside;
  announced = h.announced;
  safe_epoch = λ j q a is. put_cases (λ n. n ≤ w.began q) w.safe_epoch i 0 j (λ e. omega arith) (λ n. h.safe_epoch j q a is);
  safe_past = λ j. put_cases (λ n. n ≤ w.epoch) w.safe_epoch i 0 j (λ e. omega arith) (λ n. h.safe_past j);
  scanned = λ j q a is has. elim (cases_eq j i) [
    | inl e ↦ absurd (false≢true (sym (ap (λ f. f q) (ap (put w.seen i (λ x. false)) e ∙ put_same w.seen i (λ x. false))) ∙ has))
    | inr n ↦ (let low = h.scanned j q a is (sym (ap (λ f. f q) (put_other w.seen i (λ x. false) j n)) ∙ has) in
        let same = put_other w.least i 0 j n in omega arith)
  ];
  least_past = λ j. put_cases (λ n. n ≤ w.epoch) w.least i 0 j (λ e. omega arith) (λ n. h.least_past j);
  pending = λ j c r is. elim (cases_eq j i) [
    | inl e ↦ absurd (some_not_none is (ap (put w.pending i None) e ∙ put_same w.pending i None))
    | inr n ↦ (let s = h.pending j c r (sym (put_other w.pending i None j n) ∙ is) in record { past = s.past; gone = s.gone; before = s.before })
  ];
  free = λ c r is. (let s = h.free c r is in record { past = s.past; gone = s.gone; before = s.before });
}

-- a join
module _ (sl : Slots) (t : WholeState) (id other : ℕ) (k l : Known) (here : get_elem? t.views id ≡ some k) (there : get_elem? t.views other ≡ some l) (aside : other ≢ id)
    (lie : ℕ → ℕ) (dead : ℕ → Bool) (began : ℕ → ℕ) (was_dead : ℕ → ℕ → Bool) (h : EpochsAreSound sl t lie dead began was_dead) where
  abbrev both : Known
  both = joined_known k l

  abbrev joined : WholeState
  joined = record { words = t.words; homes = t.homes; views = set (set t.views id both) other spent_known }

  still_there : get_elem? (set t.views id both) other ≡ some l
  still_there = set_else t.views id other both aside ∙ there

  both_holds : ParticipantHolds sl t.words both
  both_holds =
      let mine = h.each id k here in
      let yours = h.each other l there in record {
        announcement = mine.announcement;
        other = λ q is. yours.announcement q is;
        two = λ q is has. aside (sym (h.apart id other q k l here there (own is) (own has)));
        none = mine.none;
        epoch = mine.epoch;
        surveyed = mine.surveyed;
        rests = λ is. is_at_rest (joined_view k.tree l.tree) refl refl refl refl refl;
        idle = λ c is. refl;
      }

  spent_holds : ParticipantHolds sl t.words spent_known
  spent_holds = record {
    announcement = λ q is. absurd (some_not_none is refl);
    other = λ q is. absurd (some_not_none is refl);
    two = λ q is has. some_not_none has refl;
    none = λ is. refl;
    epoch = λ n is. absurd (some_not_none is refl);
    surveyed = omega arith;
    rests = λ is. is_at_rest spent_view refl refl refl refl refl;
    idle = λ c is. refl;
  }

  pub data Before (j : ℕ) (u : Known) : Type 0 where
    of_both : j ≡ id → both ≡ u → Before j u
    of_spent : spent_known ≡ u → Before j u
    of_another : j ≢ other → j ≢ id → get_elem? t.views j ≡ some u → Before j u

  before : (j : ℕ) (u : Known) → get_elem? joined.views j ≡ some u → Before j u
  before j u at = ⊎_elim
      (λ (e : (j ≡ other) × (spent_known ≡ u)). of_spent e.1)
      (λ (e : (j ≢ other) × (get_elem? (set t.views id both) j ≡ some u)). ⊎_elim
      (λ (f : (j ≡ id) × (both ≡ u)). of_both f.0 f.1)
      (λ (f : (j ≢ id) × (get_elem? t.views j ≡ some u)). of_another e.0 f.0 f.1)
      (at_set t.views id j both u e.1))
      (at_set (set t.views id both) other j spent_known u at)

  each_joined : (j : ℕ) (u : Known) → Before j u → ParticipantHolds sl t.words u
  each_joined j u (of_both at is) = subst (ParticipantHolds sl t.words) is both_holds
  each_joined j u (of_spent is) = subst (ParticipantHolds sl t.words) is spent_holds
  each_joined j u (of_another apart apart' at) = h.each j u at

  -- nobody has an announcement of the two passes but the one that has both
  spent_none : (q : ℕ) (u : Known) → spent_known ≡ u → HasAnnouncement u.participant q → ⊥
  spent_none q u is has = none (subst (λ (x : Known). HasAnnouncement x.participant q) (sym is) has)
    where
      none : HasAnnouncement no_participant q → ⊥
      none (own e) = some_not_none e refl
      none (spare e) = some_not_none e refl

  another_none : (j q : ℕ) (u : Known) → j ≢ other → j ≢ id → get_elem? t.views j ≡ some u → HasAnnouncement u.participant q → HasAnnouncement both.participant q → ⊥
  another_none j q u apart apart' at has (own is) = apart' (h.apart j id q u k at here has (own is))
  another_none j q u apart apart' at has (spare is) = apart (h.apart j other q u l at there has (own is))

  one_joined : (a b q : ℕ) (x y : Known) → Before a x → Before b y → HasAnnouncement x.participant q → HasAnnouncement y.participant q → a ≡ b
  one_joined a b q x y (of_spent is) from has has' = absurd (spent_none q x is has)
  one_joined a b q x y (of_both at is) (of_spent is') has has' = absurd (spent_none q y is' has')
  one_joined a b q x y (of_another apart apart' at) (of_spent is') has has' = absurd (spent_none q y is' has')
  one_joined a b q x y (of_both at is) (of_both at' is') has has' = at ∙ sym at'
  one_joined a b q x y (of_both at is) (of_another apart apart' at') has has' =
      absurd (another_none b q y apart apart' at' has' (subst (λ (u : Known). HasAnnouncement u.participant q) (sym is) has))
  one_joined a b q x y (of_another apart apart' at) (of_both at' is') has has' =
      absurd (another_none a q x apart apart' at has (subst (λ (u : Known). HasAnnouncement u.participant q) (sym is') has'))
  one_joined a b q x y (of_another apart apart' at) (of_another apart'' apart''' at') has has' = h.apart a b q x y at at' has has'

  -- the pass that has both is pinned as it was
  since_before : (j q a : ℕ) (u : Known) → Before j u → u.participant.announcement ≡ Some q → u.participant.announced ≡ Some a → began q ≡ u.participant.began
  since_before j q a u (of_both at is) = subst (λ (x : Known). x.participant.announcement ≡ Some q → x.participant.announced ≡ Some a → began q ≡ x.participant.began) is (h.since id q a k here)
  since_before j q a u (of_spent is) = λ placed an. absurd (some_not_none (ap (λ (x : Known). x.participant.announced) is ∙ an) refl)
  since_before j q a u (of_another apart apart' at) = h.since j q a u at

  part_joined : {A : Type 0} (part : Participant → A) → part (joined_participant k.participant l.participant) ≡ part k.participant → (i : ℕ)
      → part (participant_in joined.views i) ≡ put (λ j. part (participant_in t.views j)) other (part no_participant) i
  part_joined {A} part same i =
      part_put (set t.views id both) other l still_there spent_known part i
      ∙ ap (λ (f : ℕ → A). put f other (part no_participant) i) (λ p j. part_same t.views id k here both part same j p)

  pub join_epochs : EpochsAreSound sl joined lie dead began was_dead
  join_epochs = record {
    sound = grace_same sl.announcements
        (record (grace_of sl t lie dead began was_dead) {
          pending = put (λ i. pending_by (participant_in t.views i).retire_epoch) other None;
          least = put (λ i. (participant_in t.views i).least) other 0;
          seen = put (λ i q. nat_lt q (participant_in t.views i).looked) other (λ q. false);
          safe_epoch = put (λ i. (participant_in t.views i).safe_epoch) other 0;
        })
        (grace_of sl joined lie dead began was_dead)
        refl (λ c. refl) (λ q. refl) (λ q. refl) (λ q c. refl)
        (part_joined (λ p. pending_by p.retire_epoch) refl)
        (part_joined (λ p. p.least) refl)
        (λ i q. ap (λ (f : ℕ → Bool). f q) (part_joined (λ p r. nat_lt r p.looked) refl i ∙ ap (λ (f : ℕ → Bool). put (λ j r. nat_lt r (participant_in t.views j).looked) other f i) (λ p r. none_looked r p)))
        (part_joined (λ p. p.safe_epoch) refl)
        (λ c. refl) (reset sl.announcements (grace_of sl t lie dead began was_dead) other h.sound);
    low = h.low;
    each = λ j u at. each_joined j u (before j u at);
    since = λ j q a u at. since_before j q a u (before j u at);
    apart = λ a b q x y at at' has has'. one_joined a b q x y (before a x at) (before b y at') has has';
  }
    where
      none_looked : (r : ℕ) → nat_lt r 0 ≡ false
      none_looked r = false_from_ne_true (nat_lt r 0) (λ is. let low = ltb-true r 0 is in omega arith)

-- the ages after a join, whose pass is at rest
module _ (plan : TablePlan) (s : Slots) (tree tree' : TableState) (t : WholeState) (id other : ℕ) (k : Known) (here : get_elem? t.views id ≡ some k) (turn : TableTurns plan tree (JoinsWith id other) tree')
    (both spent : Known) (both_rests : IsAtRest both.tree) (spent_rests : IsAtRest spent.tree) (both_read : both.participant.read ≡ k.participant.read) (spent_read : spent.participant.read ≡ None)
    (both_lost : both.participant.lost ≡ k.participant.lost) (spent_lost : spent.participant.lost ≡ None)
    (lie : ℕ → ℕ) (dead : ℕ → Bool) (was_dead : ℕ → ℕ → Bool) where
  pub ages_after_join : (h : AgesAreSound plan s tree t lie dead was_dead)
      → AgesOn plan s tree t lie dead was_dead h (JoinsWith id other) tree' (record { words = t.words; homes = t.homes; views = set (set t.views id both) other spent })
  ages_after_join h = record {
    ages = record {
      now = dead_on plan tree dead h.now (JoinsWith id other) tree' on;
      still = h.still;
      since = λ seat q a u at placed an. ⊎_elim
          (λ (e : (seat ≡ other) × (spent ≡ u)). inl (subst (λ (x : Known). IsAtRest x.tree) e.1 spent_rests))
          (λ (e : (seat ≢ other) × (get_elem? (set t.views id both) seat ≡ some u)). ⊎_elim
          (λ (f : (seat ≡ id) × (both ≡ u)). inl (subst (λ (x : Known). IsAtRest x.tree) f.1 both_rests))
          (λ (f : (seat ≢ id) × (get_elem? t.views seat ≡ some u)).
          still_since plan tree seat (was_dead q) u.tree (JoinsWith id other) tree' turn (h.since seat q a u f.1 placed an))
          (at_set t.views id seat both u e.1))
          (at_set (set t.views id both) other seat spent u at);
      retired_out = are_retired_on plan s tree tree' t lie dead was_dead h (JoinsWith id other) on t.words (λ slot low. refl);
      read = λ seat u r at has. ⊎_elim
          (λ (e : (seat ≡ other) × (spent ≡ u)). λ i is. absurd (some_not_none (ap (λ (x : Known). x.participant.read) e.1 ∙ has) spent_read))
          (λ (e : (seat ≢ other) × (get_elem? (set t.views id both) seat ≡ some u)). ⊎_elim
          (λ (f : (seat ≡ id) × (both ≡ u)). read_on plan s tree tree' t lie dead was_dead h (JoinsWith id other) on t.words (λ slot low. refl) id k r here (sym both_read ∙ (ap (λ (x : Known). x.participant.read) f.1 ∙ has)))
          (λ (f : (seat ≢ id) × (get_elem? t.views seat ≡ some u)). read_on plan s tree tree' t lie dead was_dead h (JoinsWith id other) on t.words (λ slot low. refl) seat u r f.1 has)
          (at_set t.views id seat both u e.1))
          (at_set (set t.views id both) other seat spent u at);
      lost = λ seat c u at has. ⊎_elim
          (λ (e : (seat ≡ other) × (spent ≡ u)). absurd (some_not_none (ap (λ (x : Known). x.participant.lost) e.1 ∙ has) spent_lost))
          (λ (e : (seat ≢ other) × (get_elem? (set t.views id both) seat ≡ some u)). ⊎_elim
          (λ (f : (seat ≡ id) × (both ≡ u)). lost_on plan s tree tree' t lie dead was_dead h (JoinsWith id other) on id c k here (sym both_lost ∙ (ap (λ (x : Known). x.participant.lost) f.1 ∙ has)))
          (λ (f : (seat ≢ id) × (get_elem? t.views seat ≡ some u)). lost_on plan s tree tree' t lie dead was_dead h (JoinsWith id other) on seat c u f.1 has)
          (at_set t.views id seat both u e.1))
          (at_set (set t.views id both) other seat spent u at);
    };
    out = λ x is. out_on plan tree h.now.machine h.now.uses (JoinsWith id other) tree' on x is;
    words = on.words;
    later = on.later;
    wins = on.wins;
  }
    where
      on : Onward plan tree h.now.machine h.now.uses (JoinsWith id other) tree'
      on = onward plan tree h.now.machine h.now.uses h.now.same (JoinsWith id other) tree' turn
