use Rattle.std.proofs.Common.{◌≡◌, ◌≢◌, ℕ, ◌+◌, ◌<◌, ◌≤◌, inl, inr, true, false, Option, Some, None, refl, sym, ap, ◌∙◌, subst, arith}
use Rattle.std.proofs.lemmas.Bool.{cases_eq, false≢true}
use Rattle.std.proofs.lemmas.Option.{same_Some}
use Rattle.ell_layout.specs.Words.{put}
use Rattle.ell_layout.proofs.lemmas.Writes.{put_same, put_other}
use Rattle.ell_grace.specs.epochs.Grace.{Grace, least_with, advances, dies, begins, ends, gets_retire_epoch, frees, scans, looks, settles, takes}
use Rattle.ell_grace.specs.epochs.Sound.{IsRetireEpoch, GraceIsSound, GraceStarts, GraceGoesOn, TakenCardsWereGone}
use Rattle.ell_core.proofs.lemmas.outcomes.Decide.{some_not_none}

-- what is put at a place is there
there : {A : Type 0} (f : ℕ → A) (x y : ℕ) (a : A) → y ≡ x → put f x a y ≡ a
there f x y a e = ap (put f x a) e ∙ put_same f x a

at_place : {A : Type 0} (f : ℕ → Option A) (x y : ℕ) (o : Option A) (a : A) → put f x o y ≡ Some a → y ≡ x → o ≡ Some a
at_place f x y o a h e = sym (there f x y o e) ∙ h

off_place : {A : Type 0} (f : ℕ → Option A) (x y : ℕ) (o : Option A) (a : A) → put f x o y ≡ Some a → y ≢ x → f y ≡ Some a
off_place f x y o a h n = sym (put_other f x o y n) ∙ h

-- a state in which nothing has begun
pub grace_starts : GraceStarts
grace_starts announcements w start = record {
  inside = λ j a is. absurd (some_not_none is (start.word j));
  announced = λ j a is. absurd (some_not_none is (start.word j));
  safe_epoch = λ i j a is. absurd (some_not_none is (start.word j));
  safe_past = λ i. (let none = start.safe_epoch i in omega arith);
  scanned = λ i j a is. absurd (some_not_none is (start.word j));
  least_past = λ i. (let none = start.least i in omega arith);
  pending = λ i c r is. absurd (some_not_none is (start.pending i));
  free = λ c r is. (let both = start.free c r is in record { past = both.0; gone = both.1; before = λ j a is. absurd (some_not_none is (start.word j)) });
}

-- the state after each step
module _ (announcements : ℕ) (w : Grace) (h : GraceIsSound announcements w) where
  on_advance : GraceIsSound announcements (record w { epoch = w.epoch + 1 })
  on_advance = record {
    inside = h.inside;
    announced = λ j a is. (let both = h.announced j a is in (both.0, omega (arith, both.1)));
    safe_epoch = h.safe_epoch;
    safe_past = λ i. (let low = h.safe_past i in omega arith);
    scanned = h.scanned;
    least_past = λ i. (let low = h.least_past i in omega arith);
    pending = λ i c r is. (let s = h.pending i c r is in record { past = omega (arith, s.past); gone = s.gone; before = s.before });
    free = λ c r is. (let s = h.free c r is in record { past = omega (arith, s.past); gone = s.gone; before = s.before });
  }

  on_death : (d : ℕ) → GraceIsSound announcements (record w { gone = put w.gone d true })
  on_death d = record {
    inside = h.inside;
    announced = h.announced;
    safe_epoch = h.safe_epoch;
    safe_past = h.safe_past;
    scanned = h.scanned;
    least_past = h.least_past;
    pending = λ i c r is. (let s = h.pending i c r is in record { past = s.past; gone = still c s.gone; before = s.before });
    free = λ c r is. (let s = h.free c r is in record { past = s.past; gone = still c s.gone; before = s.before });
  }
    where
      still : (c : ℕ) → w.gone c ≡ true → put w.gone d true c ≡ true
      still c was = elim (cases_eq c d) [
        | inl e ↦ there w.gone d c true e
        | inr n ↦ put_other w.gone d true c n ∙ was
      ]

  on_begin : (k b : ℕ) → k < announcements → b ≤ w.epoch
      → GraceIsSound announcements (record w { word = put w.word k (Some b); began = put w.began k w.epoch; was_gone = put w.was_gone k w.gone })
  on_begin k b below low = record {
    inside = λ j a is. elim (cases_eq j k) [ inl e ↦ omega arith | inr n ↦ h.inside j a (off_place w.word k j (Some b) a is n) ];
    announced = λ j a is. elim (cases_eq j k) [
      | inl e ↦
          let one = same_Some b a (at_place w.word k j (Some b) a is e) in
          let now = there w.began k j w.epoch e in
          (omega arith, omega arith)
      | inr n ↦
          let both = h.announced j a (off_place w.word k j (Some b) a is n) in
          let same = put_other w.began k w.epoch j n in
          let low' = both.0 in
          let high = both.1 in
          (omega arith, omega arith)
    ];
    safe_epoch = λ i j a is. elim (cases_eq j k) [
      | inl e ↦ (let now = there w.began k j w.epoch e in let past = h.safe_past i in omega arith)
      | inr n ↦ (let same = put_other w.began k w.epoch j n in let was = h.safe_epoch i j a (off_place w.word k j (Some b) a is n) in omega arith)
    ];
    safe_past = h.safe_past;
    scanned = λ i j a is has. elim (cases_eq j k) [
      | inl e ↦ (let now = there w.began k j w.epoch e in let past = h.least_past i in omega arith)
      | inr n ↦ (let same = put_other w.began k w.epoch j n in let was = h.scanned i j a (off_place w.word k j (Some b) a is n) has in omega arith)
    ];
    least_past = h.least_past;
    pending = λ i c r is. retire_epoch c r (h.pending i c r is);
    free = λ c r is. retire_epoch c r (h.free c r is);
  }
    where
      retire_epoch : (c r : ℕ) → IsRetireEpoch w c r
          → IsRetireEpoch (record w { word = put w.word k (Some b); began = put w.began k w.epoch; was_gone = put w.was_gone k w.gone }) c r
      retire_epoch c r s = record {
        past = s.past;
        gone = s.gone;
        before = λ j a is later. elim (cases_eq j k) [
          | inl e ↦ ap (λ f. f c) (there w.was_gone k j w.gone e) ∙ s.gone
          | inr n ↦ ap (λ f. f c) (put_other w.was_gone k w.gone j n)
              ∙ s.before j a (off_place w.word k j (Some b) a is n) (let same = put_other w.began k w.epoch j n in omega arith)
        ];
      }

  on_end : (k : ℕ) → GraceIsSound announcements (record w { word = put w.word k None })
  on_end k = record {
    inside = λ j a is. h.inside j a (was j a is);
    announced = λ j a is. h.announced j a (was j a is);
    safe_epoch = λ i j a is. h.safe_epoch i j a (was j a is);
    safe_past = h.safe_past;
    scanned = λ i j a is has. h.scanned i j a (was j a is) has;
    least_past = h.least_past;
    pending = λ i c r is. retire_epoch c r (h.pending i c r is);
    free = λ c r is. retire_epoch c r (h.free c r is);
  }
    where
      was : (j a : ℕ) → put w.word k None j ≡ Some a → w.word j ≡ Some a
      was j a is = elim (cases_eq j k) [
        | inl e ↦ absurd (some_not_none (at_place w.word k j None a is e) refl)
        | inr n ↦ off_place w.word k j None a is n
      ]

      retire_epoch : (c r : ℕ) → IsRetireEpoch w c r → IsRetireEpoch (record w { word = put w.word k None }) c r
      retire_epoch c r s = record { past = s.past; gone = s.gone; before = λ j a is later. s.before j a (was j a is) later }

  on_retire_epoch : (k d : ℕ) → w.gone d ≡ true → GraceIsSound announcements (record w { pending = put w.pending k (Some (d, w.epoch)) })
  on_retire_epoch k d dead = record {
    inside = h.inside;
    announced = h.announced;
    safe_epoch = h.safe_epoch;
    safe_past = h.safe_past;
    scanned = h.scanned;
    least_past = h.least_past;
    pending = λ i c r is. elim (cases_eq i k) [
      | inl e ↦
          let one = same_Some (d, w.epoch) (c, r) (at_place w.pending k i (Some (d, w.epoch)) (c, r) is e) in
          let card : d ≡ c = ap (λ p. p.0) one in
          let retire_epoch : w.epoch ≡ r = ap (λ p. p.1) one in
          record {
            past = omega arith;
            gone = subst (λ n. w.gone n ≡ true) card dead;
            before = λ j a word later. (let both = h.announced j a word in let low = both.1 in absurd (omega arith));
          }
      | inr n ↦ (let s = h.pending i c r (off_place w.pending k i (Some (d, w.epoch)) (c, r) is n) in record { past = s.past; gone = s.gone; before = s.before })
    ];
    free = λ c r is. (let s = h.free c r is in record { past = s.past; gone = s.gone; before = s.before });
  }

  on_free : (i d p : ℕ) → w.pending i ≡ Some (d, p) → GraceIsSound announcements (record w { free = put w.free d (Some p) })
  on_free i d p has = record {
    inside = h.inside;
    announced = h.announced;
    safe_epoch = h.safe_epoch;
    safe_past = h.safe_past;
    scanned = h.scanned;
    least_past = h.least_past;
    pending = λ k c r is. (let s = h.pending k c r is in record { past = s.past; gone = s.gone; before = s.before });
    free = λ c r is. elim (cases_eq c d) [
      | inl e ↦
          let retire_epoch : p ≡ r = same_Some p r (at_place w.free d c (Some p) r is e) in
          let s = subst (λ n. IsRetireEpoch w n r) (sym e) (subst (IsRetireEpoch w d) retire_epoch (h.pending i d p has)) in
          record { past = s.past; gone = s.gone; before = s.before }
      | inr n ↦ (let s = h.free c r (off_place w.free d c (Some p) r is n) in record { past = s.past; gone = s.gone; before = s.before })
    ];
  }

  on_scan : (k : ℕ) → GraceIsSound announcements (record w { least = put w.least k w.epoch; seen = put w.seen k (λ j. false) })
  on_scan k = record {
    inside = h.inside;
    announced = h.announced;
    safe_epoch = h.safe_epoch;
    safe_past = h.safe_past;
    scanned = λ i j a is has. elim (cases_eq i k) [
      | inl e ↦ absurd (false≢true (sym (ap (λ f. f j) (there w.seen k i (λ x. false) e)) ∙ has))
      | inr n ↦ (let same = put_other w.least k w.epoch i n in
          let was = h.scanned i j a is (sym (ap (λ f. f j) (put_other w.seen k (λ x. false) i n)) ∙ has) in omega arith)
    ];
    least_past = λ i. elim (cases_eq i k) [
      | inl e ↦ (let now = there w.least k i w.epoch e in omega arith)
      | inr n ↦ (let same = put_other w.least k w.epoch i n in let was = h.least_past i in omega arith)
    ];
    pending = λ i c r is. (let s = h.pending i c r is in record { past = s.past; gone = s.gone; before = s.before });
    free = λ c r is. (let s = h.free c r is in record { past = s.past; gone = s.gone; before = s.before });
  }

  -- the least is no more than it was, and no more than the announcement
  least_was : (n : ℕ) (o : Option ℕ) → least_with n o ≤ n
  least_was n None = omega arith
  least_was n (Some a) = omega arith

  least_is : (n : ℕ) (o : Option ℕ) (a : ℕ) → o ≡ Some a → least_with n o ≤ a
  least_is n None a is = absurd (some_not_none is refl)
  least_is n (Some b) a is = let one = same_Some b a is in omega arith

  on_look : (k p : ℕ)
      → GraceIsSound announcements (record w { least = put w.least k (least_with (w.least k) (w.word p)); seen = put w.seen k (put (w.seen k) p true) })
  on_look k p = record {
    inside = h.inside;
    announced = h.announced;
    safe_epoch = h.safe_epoch;
    safe_past = h.safe_past;
    scanned = λ i j a is has. elim (cases_eq i k) [
      | inl e ↦
          let now = there w.least k i (least_with (w.least k) (w.word p)) e in
          elim (cases_eq j p) [
            | inl f ↦
                let low = least_is (w.least k) (w.word p) a (ap w.word (sym f) ∙ is) in
                let both = h.announced j a is in
                let first = both.0 in
                omega arith
            | inr m ↦
                let low = least_was (w.least k) (w.word p) in
                let had : w.seen k j ≡ true = sym (put_other (w.seen k) p true j m) ∙ (sym (ap (λ f. f j) (there w.seen k i (put (w.seen k) p true) e)) ∙ has) in
                let was = h.scanned k j a is had in
                omega arith
          ]
      | inr n ↦ (let same = put_other w.least k (least_with (w.least k) (w.word p)) i n in
          let was = h.scanned i j a is (sym (ap (λ f. f j) (put_other w.seen k (put (w.seen k) p true) i n)) ∙ has) in omega arith)
    ];
    least_past = λ i. elim (cases_eq i k) [
      | inl e ↦ (let now = there w.least k i (least_with (w.least k) (w.word p)) e in
          let low = least_was (w.least k) (w.word p) in let was = h.least_past k in omega arith)
      | inr n ↦ (let same = put_other w.least k (least_with (w.least k) (w.word p)) i n in let was = h.least_past i in omega arith)
    ];
    pending = λ i c r is. (let s = h.pending i c r is in record { past = s.past; gone = s.gone; before = s.before });
    free = λ c r is. (let s = h.free c r is in record { past = s.past; gone = s.gone; before = s.before });
  }

  on_settle : (k : ℕ) → ((j : ℕ) → j < announcements → w.seen k j ≡ true) → GraceIsSound announcements (record w { safe_epoch = put w.safe_epoch k (w.least k) })
  on_settle k all = record {
    inside = h.inside;
    announced = h.announced;
    safe_epoch = λ i j a is. elim (cases_eq i k) [
      | inl e ↦ (let now = there w.safe_epoch k i (w.least k) e in let was = h.scanned k j a is (all j (h.inside j a is)) in omega arith)
      | inr n ↦ (let same = put_other w.safe_epoch k (w.least k) i n in let was = h.safe_epoch i j a is in omega arith)
    ];
    safe_past = λ i. elim (cases_eq i k) [
      | inl e ↦ (let now = there w.safe_epoch k i (w.least k) e in let was = h.least_past k in omega arith)
      | inr n ↦ (let same = put_other w.safe_epoch k (w.least k) i n in let was = h.safe_past i in omega arith)
    ];
    scanned = h.scanned;
    least_past = h.least_past;
    pending = λ i c r is. (let s = h.pending i c r is in record { past = s.past; gone = s.gone; before = s.before });
    free = λ c r is. (let s = h.free c r is in record { past = s.past; gone = s.gone; before = s.before });
  }

  on_take : (d : ℕ) → GraceIsSound announcements (record w { free = put w.free d None })
  on_take d = record {
    inside = h.inside;
    announced = h.announced;
    safe_epoch = h.safe_epoch;
    safe_past = h.safe_past;
    scanned = h.scanned;
    least_past = h.least_past;
    pending = λ i c r is. (let s = h.pending i c r is in record { past = s.past; gone = s.gone; before = s.before });
    free = λ c r is. elim (cases_eq c d) [
      | inl e ↦ absurd (some_not_none (at_place w.free d c None r is e) refl)
      | inr n ↦ (let s = h.free c r (off_place w.free d c None r is n) in record { past = s.past; gone = s.gone; before = s.before })
    ];
  }

-- every step keeps it
pub grace_goes_on : GraceGoesOn
grace_goes_on announcements w w' h (advances e) = subst (GraceIsSound announcements) (sym e) (on_advance announcements w h)
grace_goes_on announcements w w' h (dies c e) = subst (GraceIsSound announcements) (sym e) (on_death announcements w h c)
grace_goes_on announcements w w' h (begins j a below low e) = subst (GraceIsSound announcements) (sym e) (on_begin announcements w h j a below low)
grace_goes_on announcements w w' h (ends j e) = subst (GraceIsSound announcements) (sym e) (on_end announcements w h j)
grace_goes_on announcements w w' h (gets_retire_epoch i c dead e) = subst (GraceIsSound announcements) (sym e) (on_retire_epoch announcements w h i c dead)
grace_goes_on announcements w w' h (frees i c r has e) = subst (GraceIsSound announcements) (sym e) (on_free announcements w h i c r has)
grace_goes_on announcements w w' h (scans i e) = subst (GraceIsSound announcements) (sym e) (on_scan announcements w h i)
grace_goes_on announcements w w' h (looks i j e) = subst (GraceIsSound announcements) (sym e) (on_look announcements w h i j)
grace_goes_on announcements w w' h (settles i all e) = subst (GraceIsSound announcements) (sym e) (on_settle announcements w h i all)
grace_goes_on announcements w w' h (takes i c r has low e) = subst (GraceIsSound announcements) (sym e) (on_take announcements w h c)

-- and what is taken was gone for each pass in an operation
pub taken_cards_were_gone : TakenCardsWereGone
taken_cards_were_gone announcements w h i c r has low j a is =
    (h.free c r has).before j a is (let past = h.safe_epoch i j a is in omega arith)
