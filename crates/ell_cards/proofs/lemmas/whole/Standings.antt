use Rattle.std.proofs.Common.{◌≡◌, ◌≢◌, ℕ, ◌≤◌, ◌==◌, not, if◌then◌else◌, Bool, true, false, Option, Some, None, is_some, IfSome, refl, sym, ap, ◌∙◌, subst, arith, true≢false}
use Rattle.ell_layout.specs.Layout.{table_size}
use Rattle.ell_cards.specs.declared.pass.Standing.{Standing}
use Rattle.ell_cards.specs.declared.view.Participant.{Participant}
use Rattle.ell_cards.specs.Frames.{StandsStill}
use Rattle.ell_cards.specs.Inside.{HasSlotThere, StandingFits}
use Rattle.ell_runs.specs.declared.view.Slots.{Slots}
use Rattle.ell_runs.specs.Plans.{TablePlan}
use Rattle.ell_cards.specs.Epochs.{LostIs, StandsAs, after_flagging, after_freeing, after_give, after_take, given_participant, joined_participant, participant_by, size_by, slots_size, whole_size}
use Rattle.ell_core.proofs.lemmas.outcomes.Decide.{some_not_none}

-- what the code of a pass keeps fits where nothing changes
pub same_standing : (standing : Standing) (words words' : ℕ) (p p' : Participant) → words' ≡ words → p' ≡ p → StandingFits standing words p → StandingFits standing words' p'
same_standing standing words words' p p' same is fits = subst (λ n. StandingFits standing n p') (sym same) (subst (StandingFits standing words) (sym is) fits)

-- and after two steps that leave its announcements, of which the second sets a slot free
pub stands_on : {a b c : Participant} → StandsAs a b → StandsStill (after_freeing b) c → StandsAs a c
stands_on first second = record {
  announcement = second.stands.announcement ∙ first.announcement;
  other = second.stands.other ∙ first.other;
  other_says = second.stands.other_says ∙ first.other_says;
  announced = second.stands.announced ∙ first.announced;
}

-- so it does where its announcements stay, and what is announced there, and the safe epoch and the slot
pub still_standing : (standing : Standing) (words words' : ℕ) (p p' : Participant) → words' ≡ words → StandsAs p p' → p'.safe_epoch ≡ p.safe_epoch → p'.slot ≡ p.slot → p'.lost ≡ None
    → StandingFits standing words p → StandingFits standing words' p'
still_standing standing words words' p p' same stands safe_epoch slot lost fits = record {
  announcement = stands.announcement ∙ fits.announcement;
  other = stands.other ∙ fits.other;
  announces = fits.announces ∙ ap is_some (sym stands.announced);
  quiet = fits.quiet;
  none = λ last e. fits.none last (sym same ∙ e);
  unsafe = λ last e. safe_epoch ∙ fits.unsafe last (sym same ∙ e);
  some = λ s e. fits.some s (sym same ∙ e);
  slot = λ c is. subst (λ n. HasSlotThere n c) (sym same) (fits.slot c (sym slot ∙ is));
  safe_epoch = safe_epoch ∙ fits.safe_epoch;
  lost = lost;
}

-- and where a pass notes a card whose flag it lost
pub flagging_stands : (o : Option Slots) (won : Bool) (c : ℕ) (p p' : Participant) → p' ≡ after_flagging o won c p → StandsAs p p' × (p'.safe_epoch ≡ p.safe_epoch) × (p'.slot ≡ p.slot)
flagging_stands o won c p p' is = by o won is
  where
    still : p' ≡ p → StandsAs p p' × (p'.safe_epoch ≡ p.safe_epoch) × (p'.slot ≡ p.slot)
    still is = (
      record { announcement = ap (λ (x : Participant). x.announcement) is; other = ap (λ (x : Participant). x.other) is; other_says = ap (λ (x : Participant). x.other_says) is; announced = ap (λ (x : Participant). x.announced) is },
      ap (λ (x : Participant). x.safe_epoch) is,
      ap (λ (x : Participant). x.slot) is,
    )

    by : (o : Option Slots) (won : Bool) → p' ≡ after_flagging o won c p → StandsAs p p' × (p'.safe_epoch ≡ p.safe_epoch) × (p'.slot ≡ p.slot)
    by None won is = still is
    by (Some s) true is = still is
    by (Some s) false is = (
      record { announcement = ap (λ (x : Participant). x.announcement) is; other = ap (λ (x : Participant). x.other) is; other_says = ap (λ (x : Participant). x.other_says) is; announced = ap (λ (x : Participant). x.announced) is },
      ap (λ (x : Participant). x.safe_epoch) is,
      ap (λ (x : Participant). x.slot) is,
    )

-- it has lost that card's flag, if cards come back
pub flagging_lost : (o : Option Slots) (found expected c : ℕ) (p p' : Participant) → p' ≡ after_flagging o (found == expected) c p → p.lost ≡ None → (o ≢ None → p.slot ≡ Some c)
    → LostIs o (not (found == expected)) c p'
flagging_lost o found expected c p p' is none taken = by o (found == expected) is taken
  where
    by : (o : Option Slots) (won : Bool) → p' ≡ after_flagging o won c p → (o ≢ None → p.slot ≡ Some c) → LostIs o (not won) c p'
    by None won is taken = ap (λ (x : Participant). x.lost) is ∙ none
    by (Some s) true is taken = ap (λ (x : Participant). x.lost) is ∙ none
    by (Some s) false is taken = (ap (λ (x : Participant). x.lost) is, ap (λ (x : Participant). x.slot) is ∙ taken (λ e. some_not_none refl e))

-- no table whose cards come back has the size of one whose cards do not
pub no_announcements : (words last : ℕ) (s : Slots) → words ≡ slots_size s → words ≡ table_size last → ⊥
no_announcements words last s x y = omega arith

-- each table has the words of a card
pub size_some : (plan : TablePlan) → table_size 0 ≤ whole_size plan
size_some plan = by plan.slots
  where
    by : (o : Option Slots) → table_size 0 ≤ size_by o plan.last_card
    by None = omega arith
    by (Some s) = omega arith

-- the first pass of a table has the first announcement, if there is one
pub first_standing_fits : (o : Option Slots) (last words : ℕ) → words ≡ size_by o last → StandingFits (record { announcement = (participant_by o).announcement; announces = false; found = 0; safe_epoch = 0; numbers = 0 }) words (participant_by o)
first_standing_fits None last words is = record {
  announcement = refl;
  other = refl;
  announces = refl;
  quiet = λ none. refl;
  safe_epoch = refl;
  none = λ other e. refl;
  unsafe = λ other e. refl;
  some = λ s e none. no_announcements words last s e is;
  slot = λ c is. absurd (some_not_none is refl);
  lost = refl;
}
first_standing_fits (Some s) last words is = record {
  announcement = refl;
  other = refl;
  announces = refl;
  quiet = λ none. refl;
  safe_epoch = refl;
  none = λ other e. absurd (no_announcements words other s is e);
  unsafe = λ other e. refl;
  some = λ t e none. some_not_none refl none;
  slot = λ c is. absurd (some_not_none is refl);
  lost = refl;
}

-- a pass that announces something is pinned, in a table whose cards come back
pub inside_by : (plan : TablePlan) (standing : Standing) (words : ℕ) (p : Participant) → words ≡ whole_size plan → StandingFits standing words p → standing.announces ≡ true
    → is_some p.announced ≡ is_some plan.slots
inside_by plan standing words p size fits on = by plan.slots size
  where
    by : (o : Option Slots) → words ≡ size_by o plan.last_card → is_some p.announced ≡ is_some o
    by None is = absurd (true≢false (sym on ∙ fits.quiet (fits.none plan.last_card is)))
    by (Some s) is = sym fits.announces ∙ on

-- in a table whose cards do not come back a pass announces nothing
pub outside_by : (plan : TablePlan) (standing : Standing) (words : ℕ) (p : Participant) → words ≡ whole_size plan → StandingFits standing words p → plan.slots ≡ None
    → is_some p.announced ≡ false
outside_by plan standing words p size fits none =
    sym fits.announces ∙ fits.quiet (fits.none plan.last_card (size ∙ ap (λ o. size_by o plan.last_card) none))

-- what a pass knows of epochs after it looked for an announcement, and found this one, or none
pub record Found (o : Option Slots) (result : Option ℕ) (old new : Participant) : Type 0 where
  pub other : new.other ≡ result
  pub quiet : (q : ℕ) → new.other ≡ Some q → new.other_says ≡ None
  pub announcement : new.announcement ≡ old.announcement
  pub announced : new.announced ≡ old.announced
  pub safe_epoch : new.safe_epoch ≡ old.safe_epoch
  pub slot : new.slot ≡ old.slot
  pub lost : new.lost ≡ old.lost
  pub placed : (q : ℕ) → result ≡ Some q → o ≢ None

pub found_is : (o : Option Slots) (result : Option ℕ) (old new : Participant) → old.other ≡ None → IfSome result (λ q. (new ≡ after_take q 0 old) × (o ≢ None)) → (result ≡ None → new ≡ old)
    → Found o result old new
found_is o (Some r) old new none took lost = record {
  other = ap (λ (p : Participant). p.other) took.0;
  quiet = λ q is. ap (λ (p : Participant). p.other_says) took.0;
  announcement = ap (λ (p : Participant). p.announcement) took.0;
  announced = ap (λ (p : Participant). p.announced) took.0;
  safe_epoch = ap (λ (p : Participant). p.safe_epoch) took.0;
  slot = ap (λ (p : Participant). p.slot) took.0;
  lost = ap (λ (p : Participant). p.lost) took.0;
  placed = λ q is. took.1;
}
found_is o None old new none took lost =
    let same = lost refl in record {
      other = ap (λ (p : Participant). p.other) same ∙ none;
      quiet = λ q is. absurd (some_not_none is (ap (λ (p : Participant). p.other) same ∙ none));
      announcement = ap (λ (p : Participant). p.announcement) same;
      announced = ap (λ (p : Participant). p.announced) same;
      safe_epoch = ap (λ (p : Participant). p.safe_epoch) same;
      slot = ap (λ (p : Participant). p.slot) same;
      lost = ap (λ (p : Participant). p.lost) same;
      placed = λ q is. absurd (some_not_none is refl);
    }

-- the announcements of two parts: the left one has the pass's own, and the right one what was found, if cards come back
pub left_standing_fits : (was standing : Standing) (words words' : ℕ) (o : Option Slots) (result : Option ℕ) (old new : Participant) → words' ≡ words → Found o result old new
    → (standing.announcement ≡ was.announcement) × (standing.announces ≡ was.announces) × (standing.safe_epoch ≡ was.safe_epoch) → StandingFits was words old → StandingFits standing words' (after_give new)
left_standing_fits was standing words words' o result old new same found kept fits = record {
  announcement = found.announcement ∙ (fits.announcement ∙ sym kept.0);
  other = refl;
  announces = kept.1 ∙ (fits.announces ∙ ap is_some (sym found.announced));
  quiet = λ none. kept.1 ∙ fits.quiet (sym kept.0 ∙ none);
  safe_epoch = found.safe_epoch ∙ (fits.safe_epoch ∙ sym kept.2);
  none = λ last e. kept.0 ∙ fits.none last (sym same ∙ e);
  unsafe = λ last e. found.safe_epoch ∙ fits.unsafe last (sym same ∙ e);
  some = λ s e none. fits.some s (sym same ∙ e) (sym kept.0 ∙ none);
  slot = λ c is. subst (λ n. HasSlotThere n c) (sym same) (fits.slot c (sym found.slot ∙ is));
  lost = found.lost ∙ fits.lost;
}

pub right_standing_fits : (standing : Standing) (o : Option Slots) (last words : ℕ) (result : Option ℕ) (old new : Participant) → words ≡ size_by o last → Found o result old new → (o ≢ None → result ≢ None)
    → (standing.announcement ≡ result) × (standing.announces ≡ false) × (standing.safe_epoch ≡ 0) → StandingFits standing words (given_participant new)
right_standing_fits standing o last words result old new size found each given = record {
  announcement = found.other ∙ sym given.0;
  other = refl;
  announces = given.1;
  quiet = λ none. given.1;
  safe_epoch = sym given.2;
  none = λ other e. given.0 ∙ by o result size found.placed other e;
  unsafe = λ other e. refl;
  some = λ s e none. each (λ is. no_announcements words last s e (size ∙ ap (λ x. size_by x last) is)) (sym given.0 ∙ none);
  slot = λ c is. absurd (some_not_none is refl);
  lost = refl;
}
  where
    by : (o : Option Slots) (result : Option ℕ) → words ≡ size_by o last → ((q : ℕ) → result ≡ Some q → o ≢ None) → (other : ℕ) → words ≡ table_size other → result ≡ None
    by o None size placed other e = refl
    by None (Some q) size placed other e = absurd (placed q refl refl)
    by (Some s) (Some q) size placed other e = absurd (no_announcements words other s size e)

-- the announcement of a pass to which another was joined, once it has given that one's back
pub joined_standing_fits : (standing : Standing) (words words' : ℕ) (gone : Option ℕ) (p other new : Participant) → words' ≡ words → other.announcement ≡ gone
    → new ≡ (if is_some gone then after_give (joined_participant p other) else joined_participant p other) → StandingFits standing words p → StandingFits standing words' new
joined_standing_fits standing words words' (Some q) p other new same is now fits = subst (StandingFits standing words') (sym now) (record {
  announcement = fits.announcement;
  other = refl;
  announces = fits.announces;
  quiet = fits.quiet;
  safe_epoch = fits.safe_epoch;
  none = λ last e. fits.none last (sym same ∙ e);
  unsafe = λ last e. fits.unsafe last (sym same ∙ e);
  some = λ s e. fits.some s (sym same ∙ e);
  slot = λ c taken. subst (λ n. HasSlotThere n c) (sym same) (fits.slot c taken);
  lost = fits.lost;
})
joined_standing_fits standing words words' None p other new same is now fits = subst (StandingFits standing words') (sym now) (record {
  announcement = fits.announcement;
  other = is;
  announces = fits.announces;
  quiet = fits.quiet;
  safe_epoch = fits.safe_epoch;
  none = λ last e. fits.none last (sym same ∙ e);
  unsafe = λ last e. fits.unsafe last (sym same ∙ e);
  some = λ s e. fits.some s (sym same ∙ e);
  slot = λ c taken. subst (λ n. HasSlotThere n c) (sym same) (fits.slot c taken);
  lost = fits.lost;
})

-- what is not there is nothing
pub none_is : {A : Type 0} (o : Option A) → is_some o ≡ false → o ≡ None
none_is None is = refl
none_is (Some x) is = absurd (true≢false is)
