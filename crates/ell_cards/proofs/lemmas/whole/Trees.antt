use Rattle.std.proofs.Common.{◌≡◌, ◌≢◌, ℕ, ◌<◌, ◌≤◌, nat_lt, if◌then◌else◌, Bool, Some, None, List, [], ◌∷◌, zero, suc, get_or, set, refl, sym, ap, ◌∙◌, subst, ⊎_elim, arith, get_or-set_other}
use mathlib.Core.Option.{some, some-injective, some-ne-none}
use mathlib.Core.Option.{Option as Maybe}
use lib.ListN.{get_elem?}
use Rattle.atomic_table.proofs.Lists.{at_set}
use Rattle.ell_layout.specs.Layout.{table_size}
use Rattle.ell_grace.specs.epochs.Grace.{Grace}
use Rattle.ell_grace.specs.epochs.Sound.{GraceIsSound}
use Rattle.ell_cards.specs.declared.view.Known.{Known}
use Rattle.ell_runs.specs.declared.view.Slots.{Slots}
use Rattle.ell_runs.specs.declared.view.View.{View}
use Rattle.ell_cards.specs.Epochs.{WholeState, epoch_word, announcement_word, slot_word, pending_by, announced_by, ParticipantHolds, HasAnnouncement, EpochsAreSound, grace_of}
use Rattle.ell_runs.specs.Touching.{IsAtRest}
use Rattle.ell_cards.specs.Whole.{trees_of}
use Rattle.ell_cards.proofs.lemmas.whole.Seats.{before_epoch, epoch_before_slots, retire_epochs_same, part_same, holds_on, holds_of}

-- a view of the list of a table's trees
pub tree_at : (views : List Known) (i : ℕ) (k : Known) → get_elem? views i ≡ some k → get_elem? (trees_of views) i ≡ some k.tree
tree_at [] i k e = absurd (some-ne-none k (sym e))
tree_at (x ∷ xs) zero k e = ap (λ (l : Known). some l.tree) (some-injective x k e)
tree_at (x ∷ xs) (suc i) k e = tree_at xs i k e

-- epochs are sound where others are that are the same
pub grace_same : (announcements : ℕ) (w w' : Grace) → w'.epoch ≡ w.epoch → ((c : ℕ) → w'.gone c ≡ w.gone c) → ((q : ℕ) → w'.word q ≡ w.word q)
    → ((q : ℕ) → w'.began q ≡ w.began q) → ((q c : ℕ) → w'.was_gone q c ≡ w.was_gone q c) → ((i : ℕ) → w'.pending i ≡ w.pending i)
    → ((i : ℕ) → w'.least i ≡ w.least i) → ((i q : ℕ) → w'.seen i q ≡ w.seen i q) → ((i : ℕ) → w'.safe_epoch i ≡ w.safe_epoch i)
    → ((c : ℕ) → w'.free c ≡ w.free c) → GraceIsSound announcements w → GraceIsSound announcements w'
grace_same announcements w w' epoch gone word began was_gone pending least seen safe_epoch free h =
    subst (GraceIsSound announcements) (sym same) h
  where
    same : w' ≡ w
    same = λ t. record {
      epoch = epoch t;
      gone = λ c. gone c t;
      word = λ q. word q t;
      began = λ q. began q t;
      was_gone = λ q c. was_gone q c t;
      pending = λ i. pending i t;
      least = λ i. least i t;
      seen = λ i q. seen i q t;
      safe_epoch = λ i. safe_epoch i t;
      free = λ c. free c t;
    }

-- the epochs of a table where a word of its cards became another one, and a pass knows something else of the tree
module _ (s : WholeState) (id : ℕ) (k : Known) (here : get_elem? s.views id ≡ some k) (v : View) where
  abbrev now : Known
  now = record k { tree = v }

  announcement_stays : (sl : Slots) (i n : ℕ) → i < table_size sl.last → (q : ℕ) → get_or (set s.words i n) (announcement_word sl q) 0 ≡ get_or s.words (announcement_word sl q) 0
  announcement_stays sl i n low q = get_or-set_other s.words i (announcement_word sl q) n 0 (let before = before_epoch sl i low in omega arith)

  pub epoch_stays : (sl : Slots) (i n : ℕ) → i < table_size sl.last → get_or (set s.words i n) (epoch_word sl) 0 ≡ get_or s.words (epoch_word sl) 0
  epoch_stays sl i n low = get_or-set_other s.words i (epoch_word sl) n 0 (let before = before_epoch sl i low in omega arith)

  pub slots_stay : (sl : Slots) (i n : ℕ) → i < table_size sl.last → (slot : ℕ) → slot ≤ sl.last → get_or (set s.words i n) (slot_word sl slot) 0 ≡ get_or s.words (slot_word sl slot) 0
  slots_stay sl i n low slot inside =
      get_or-set_other s.words i (slot_word sl slot) n 0 (let before = before_epoch sl i low in let behind = epoch_before_slots sl slot in omega arith)

  pub tree_epochs : (sl : Slots) (i n : ℕ) (homes : List (Maybe (Unit {0}))) (lie : ℕ → ℕ) (dead : ℕ → Bool) (began : ℕ → ℕ) (was_dead : ℕ → ℕ → Bool)
      → i < table_size sl.last → (k.participant.announced ≡ None → IsAtRest v) → ((c : ℕ) → k.participant.lost ≡ Some c → v.worker.card ≡ None) → EpochsAreSound sl s lie dead began was_dead
      → EpochsAreSound sl (record { words = set s.words i n; homes = homes; views = set s.views id now }) lie dead began was_dead
  tree_epochs sl i n homes lie dead began was_dead low rests idle h = record {
    sound = grace_same sl.announcements (grace_of sl s lie dead began was_dead)
        (grace_of sl (record { words = set s.words i n; homes = homes; views = set s.views id now }) lie dead began was_dead)
        (epoch_stays sl i n low) (λ c. refl)
        (λ q. ap (λ x. if nat_lt q sl.announcements then announced_by x else None) (announcement_stays sl i n low q))
        (λ q. refl) (λ q c. refl)
        (part_same s.views id k here now (λ p. pending_by p.retire_epoch) refl)
        (part_same s.views id k here now (λ p. p.least) refl)
        (λ j q. part_same s.views id k here now (λ p. nat_lt q p.looked) refl j)
        (part_same s.views id k here now (λ p. p.safe_epoch) refl)
        (retire_epochs_same sl lie s.words (set s.words i n) (slots_stay sl i n low)) h.sound;
    low = let same = epoch_stays sl i n low in let was = h.low in omega arith;
    each = λ j u at. ⊎_elim
        (λ (t : (j ≡ id) × (now ≡ u)). subst (ParticipantHolds sl (set s.words i n)) t.1 (on now (holds_of sl s.words k now refl rests idle (h.each id k here))))
        (λ (t : (j ≢ id) × (get_elem? s.views j ≡ some u)). on u (h.each j u t.1))
        (at_set s.views id j now u at);
    since = λ j q a u at is an. ⊎_elim
        (λ (e : (j ≡ id) × (now ≡ u)). subst (λ (x : Known). x.participant.announcement ≡ Some q → x.participant.announced ≡ Some a → began q ≡ x.participant.began) e.1 (h.since id q a k here) is an)
        (λ (e : (j ≢ id) × (get_elem? s.views j ≡ some u)). h.since j q a u e.1 is an)
        (at_set s.views id j now u at);
    apart = λ a b q x y at at' has has'. h.apart a b q (was a x at).0 (was b y at').0 (was a x at).1 (was b y at').1
        ((was a x at).2 q has) ((was b y at').2 q has');
  }
    where
      on : (u : Known) → ParticipantHolds sl s.words u → ParticipantHolds sl (set s.words i n) u
      on u holds = holds_on sl s.words (set s.words i n) u (λ q has. announcement_stays sl i n low q) (let same = epoch_stays sl i n low in omega arith) holds

      -- who has an announcement now had it before
      was : (j : ℕ) (u : Known) → get_elem? (set s.views id now) j ≡ some u
          → (before : Known) × (get_elem? s.views j ≡ some before) × ((q : ℕ) → HasAnnouncement u.participant q → HasAnnouncement before.participant q)
      was j u at = ⊎_elim
          (λ (t : (j ≡ id) × (now ≡ u)). (k, ap (λ x. get_elem? s.views x) t.0 ∙ here, λ q has. subst (λ (x : Known). HasAnnouncement x.participant q) (sym t.1) has))
          (λ (t : (j ≢ id) × (get_elem? s.views j ≡ some u)). (u, t.1, λ q has. has))
          (at_set s.views id j now u at)
