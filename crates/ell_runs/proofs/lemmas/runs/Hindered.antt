use Rattle.std.proofs.Common.{◌≡◌, ◌≢◌, ℕ, ◌+◌, ◌⊎◌, ◌/◌, ◌%◌, ◌<◌, ◌≤◌, ◌==◌, if◌then◌else◌, Bool, true, false, Option, Some, None, List, [], ◌∷◌, ◌++◌, inl, inr, refl, sym, ap, ◌∙◌, subst, arith, eq-eqb, eqb-true, true≢false, unwrap_or}
use Rattle.ell_core.specs.acts.Searching.{put_of}
use Rattle.ell_core.proofs.lemmas.keeping.Puts.{putting_hand}
use Rattle.std.proofs.lemmas.Bool.{cases_eq, false≢true}
use Rattle.std.proofs.lemmas.List.{append_assoc}
use Rattle.std.proofs.lemmas.Option.{same_Some}
use mathlib.Core.Option.{some}
use lib.ListN.{get_elem?}
use Rattle.ell_ops.specs.declared.op.Op.TheVariants.{Find, Insert, Delete, Swap}
use Rattle.ell_ops.specs.declared.op.Op.{Op}
use Rattle.ell_core.specs.declared.exchange.Exchange.{Exchange}
use Rattle.ell_core.specs.declared.exchange.Exchange.TheVariants as exchange
use Rattle.ell_word.specs.Node.{IsInternal}
use Rattle.ell_word.specs.Word.{packed, unpacked}
use Rattle.ell_word.specs.declared.update.State.{State}
use Rattle.ell_word.specs.declared.update.State.TheVariants as state
use Rattle.ell_word.specs.declared.update.Update.{Update}
use Rattle.ell_core.specs.declared.fact.Fact.TheVariants.{IFlagged, DFlagged, Marked}
use Rattle.ell_core.specs.declared.fact.Fact.{Fact}
use Rattle.ell_layout.specs.declared.field.Field.TheVariants as field
use Rattle.ell_core.specs.declared.put.Put.{Put}
use Rattle.ell_core.specs.declared.view.Seen.{Seen}
use Rattle.ell_core.specs.declared.view.Search.{Search}
use Rattle.ell_layout.specs.Words.{Words}
use Rattle.ell_core.specs.state.Machine.{Worker, Machine, worker_of}
use Rattle.ell_layout.specs.Cards.{clean}
use Rattle.ell_core.specs.acts.Searching.{IsClean}
use Rattle.ell_core.specs.history.Stages.{Stage, Stages, Born, is_insert, is_delete, delete_won, is_cut, is_markable, waits}
use Rattle.ell_core.specs.history.Invariant.{Invariant, WorkerIsSound}
use Rattle.ell_core.specs.history.Later.{WordsLater, StagesLater}
use Rattle.ell_core.specs.statements.StepLaws.{Reliance}
use Rattle.ell_core.specs.statements.Since.{has_ended, SeenSince, SearchSince, CleansSince}
use Rattle.ell_core.proofs.lemmas.outcomes.Decide.{some_not_none}
use Rattle.ell_core.proofs.lemmas.keeping.claim.Taking.{hand_discarded}
use Rattle.ell_core.proofs.lemmas.following.Reliance.{may_rely}
use Rattle.ell_core.proofs.lemmas.following.Since.{word_unended}
use Rattle.ell_core.proofs.lemmas.words.CleanWords.{clean_remainder}
use Rattle.ell_core.proofs.lemmas.words.Packed.{packed_again}
use Rattle.ell_core.proofs.lemmas.stages.Ended.{ends_last}
use Rattle.ell_core.proofs.lemmas.following.waiting.Cards.{hand_waits}
use Rattle.ell_core.proofs.lemmas.stages.Order.{delete_won-delete, insert_won-insert, insert_open-insert, one_kind, won_cases}
use Rattle.ell_runs.specs.Plans.{TablePlan, flat_from}
use Rattle.ell_runs.specs.declared.call.Call.{Call}
use Rattle.ell_runs.specs.declared.call.Call.TheVariants as call
use Rattle.ell_runs.specs.declared.call.NewNode.{NewNode}
use Rattle.ell_runs.specs.declared.view.Hindrance.{Hindrance}
use Rattle.ell_runs.specs.declared.view.Hindrance.TheVariants.{Claim, Found}
use Rattle.ell_runs.specs.declared.view.View.{View}
use Rattle.ell_runs.specs.Changes.{unless_clean, read_in_way, first_in_way, in_the_way, way_now, after_again, after_leave, after_answer, after_rest, after_claim, after_flag, after_mark, if_won, exchanged, with_fact, unmarking, is_mark_of, is_this}
use Rattle.ell_runs.specs.Calls.{after, May, seen_below}
use Rattle.ell_runs.specs.States.{TableState, seat_worker}
use Rattle.ell_runs.specs.Machines.{HasMachine}
use Rattle.ell_runs.specs.Turns.{found_by}
use Rattle.ell_runs.specs.Laws.{machine_of_table}
use Rattle.ell_runs.specs.Meanwhile.{KeepsOn, AreOfOthers, IsPast}
use Rattle.ell_runs.proofs.lemmas.seats.Seats.{relies}
use Rattle.ell_runs.proofs.lemmas.stepping.Looks.{update_listed}
use Rattle.ell_runs.proofs.lemmas.stepping.Exchanges.{told_is}
use Rattle.ell_runs.proofs.lemmas.stepping.Known.{known_delete}
use Rattle.ell_core.specs.tree.Rank.{rank}

-- a node whose update word was no greater when a search began than one that it has read there since, and which was not cut out then
pub record PlaceSince (w : Words) (stage : Stages) (x word : ℕ) : Type 0 where
  pub least : w.update x ≤ word
  pub there : (c : ℕ) → is_cut (stage c) ≡ true → w.p c ≢ x

-- what was in the way since, by the words and the stages
abbrev pub Met : Words → Stages → Words → Stages → Hindrance → Type 0
Met w stage now after (Claim c) = (w.next ≤ c) × (c < now.next)
Met w stage now after (Found u) = (has_ended (stage u.card) ≡ false) × (u.state ≡ state.Clean → has_ended (after u.card) ≡ true) × (u.card < now.next)

abbrev pub AllMet : Words → Stages → Words → Stages → List Hindrance → Type 0
AllMet w stage now after [] = Unit {0}
AllMet w stage now after (h ∷ hs) = Met w stage now after h × AllMet w stage now after hs

-- it stays so
met_later : (w : Words) (stage : Stages) (now : Words) (after : Stages) (later_words : Words) (ends : Stages) → WordsLater now later_words → StagesLater after ends
    → (hs : List Hindrance) → AllMet w stage now after hs → AllMet w stage later_words ends hs
met_later w stage now after later_words ends words later [] h = tt
met_later w stage now after later_words ends words later (Claim c ∷ hs) h =
    let more = words.next in let low = h.0.1 in ((h.0.0, omega arith), met_later w stage now after later_words ends words later hs h.1)
met_later w stage now after later_words ends words later (Found u ∷ hs) h =
    let more = words.next in let low = h.0.2 in
    ((h.0.0, λ e. ends_last after ends later u.card (h.0.1 e), omega arith), met_later w stage now after later_words ends words later hs h.1)

-- what was met is of cards below the claim word
all_earlier : (w : Words) (stage : Stages) (now : Words) (after : Stages) (n : ℕ) → now.next ≤ n → (hs : List Hindrance) → AllMet w stage now after hs
    → (least : ℕ) → AreOfOthers least n hs
all_earlier w stage now after n most [] h least = tt
all_earlier w stage now after n most (Claim c ∷ hs) h least =
    let low = h.0.1 in (inl (omega arith), all_earlier w stage now after n most hs h.1 least)
all_earlier w stage now after n most (Found u ∷ hs) h least =
    let low = h.0.2 in (omega arith, all_earlier w stage now after n most hs h.1 least)

-- what is of other cards below a number is so below a greater one
others_more : (least more c : ℕ) → least ≤ more → (hs : List Hindrance) → AreOfOthers least c hs → AreOfOthers more c hs
others_more least more c low [] h = tt
others_more least more c low (Claim d ∷ hs) h = (
  elim h.0 [
    | inl earlier ↦ inl earlier
    | inr later ↦ (let below = later.1 in inr (later.0, omega arith))
  ],
  others_more least more c low hs h.1,
)
others_more least more c low (Found u ∷ hs) h = (h.0, others_more least more c low hs h.1)

-- what two lists have was met, in one
all_append : (w : Words) (stage : Stages) (now : Words) (after : Stages) (a b : List Hindrance) → AllMet w stage now after a → AllMet w stage now after b
    → AllMet w stage now after (a ++ b)
all_append w stage now after [] b h g = g
all_append w stage now after (x ∷ a) b h g = (h.0, all_append w stage now after a b h.1 g)

-- so was what a search had read in the way
module _ (w : Words) (stage : Stages) (now : Words) (after : Stages) where
  unless_met : (st : State) (c : ℕ) → (st ≢ state.Clean → has_ended (stage c) ≡ false) → c < now.next → AllMet w stage now after (unless_clean st c)
  unless_met state.IFlag c h low = ((h (λ e. cc), λ e. absurd (cc), low), tt)
  unless_met state.DFlag c h low = ((h (λ e. cc), λ e. absurd (cc), low), tt)
  unless_met state.Mark c h low = ((h (λ e. cc), λ e. absurd (cc), low), tt)
  unless_met state.Clean c h low = tt

  -- a word that was read at a node since names a card below the claim word
  abbrev ReadSince : Seen → Type 0
  ReadSince seen = SeenSince w stage seen.node seen.word × ((unpacked seen.word).card < now.next)

  read_met : (o : Option Seen) → ((seen : Seen) → o ≡ Some seen → ReadSince seen) → AllMet w stage now after (read_in_way o)
  read_met None h = tt
  read_met (Some seen) h = unless_met (unpacked seen.word).state (unpacked seen.word).card (h seen refl).0.unended (h seen refl).1

  first_met : (a b : List Hindrance) → AllMet w stage now after a → AllMet w stage now after b → AllMet w stage now after (first_in_way a b)
  first_met [] b h g = g
  first_met (x ∷ a) b h g = h

  way_met : (op : Option Op) (place : Option ℕ) (parent above : Option Seen) → ((seen : Seen) → parent ≡ Some seen → ReadSince seen)
      → ((seen : Seen) → above ≡ Some seen → ReadSince seen) → AllMet w stage now after (in_the_way op place parent above)
  way_met None place parent above h g = tt
  way_met (Some (Find k)) place parent above h g = tt
  way_met (Some (Insert k value)) None parent above h g = tt
  way_met (Some (Insert k value)) (Some x) parent above h g = read_met parent h
  way_met (Some (Swap k was value)) None parent above h g = tt
  way_met (Some (Swap k was value)) (Some x) parent above h g = read_met parent h
  way_met (Some (Delete k)) None parent above h g = tt
  way_met (Some (Delete k)) (Some x) parent above h g = first_met (read_in_way above) (read_in_way parent) (read_met above g) (read_met parent h)

-- a search has this behind it
abbrev IsBehind : Search → Seen → Type 0
IsBehind q seen = (q.parent ≡ Some seen) ⊎ (q.grandparent ≡ Some seen)

-- what the claims of a pass have shown of the claim word is no more than what its last reading does, once that card is claimed, and that the card in
-- hand was given out
pub record ShowsClaims (from : ℕ) (v : View) : Type 0 where
  pub read : (n : ℕ) → v.next ≡ Some n → v.next_at_least ≤ n + 1
  pub past : (c : ℕ) → v.worker.card ≡ Some c → IsPast from v.next_at_least c

-- so it is where neither changes
shows_on : (from : ℕ) (v u : View) → u.next ≡ v.next → u.next_at_least ≡ v.next_at_least → ((c : ℕ) → u.worker.card ≡ Some c → v.worker.card ≡ Some c)
    → ShowsClaims from v → ShowsClaims from u
shows_on from v u next least hand h = record {
  read = λ n e. subst (λ m. m ≤ n + 1) (sym least) (h.read n (sym next ∙ e));
  past = λ c has. subst (λ m. IsPast from m c) (sym least) (h.past c (hand c has));
}

-- what a pass has met since its search began, what it has read of the claim word and behind it, the card in its hand, and where that goes
pub record HinderedSince (from : ℕ) (w : Words) (stage : Stages) (now : Words) (after : Stages) (old : List Hindrance) (v : View) : Type 0 where
  pub met : List Hindrance
  pub list : v.hindrances ≡ met ++ old
  pub earlier : List Hindrance
  pub tries : met ≡ v.met ++ earlier
  pub each : AllMet w stage now after met
  pub next : (n : ℕ) → v.next ≡ Some n → w.next ≤ n
  pub named : (seen : Seen) → IsBehind v.worker.search seen → (unpacked seen.word).card < now.next
  pub shows : ShowsClaims from v
  pub own : (c : ℕ) → v.worker.card ≡ Some c → AreOfOthers v.next_at_least c met
  pub hand : (k c : ℕ) → v.worker.operation ≡ Some (Delete k) → v.worker.card ≡ Some c → v.worker.flagged ≡ true → PlaceSince w stage (now.p c) (now.was c)

-- a card whose flag was won does not wait for it
won_waits : (s : Stage) → delete_won s ≡ true → waits s ≡ true → ⊥
won_waits s h k = false≢true (sym (calm s h) ∙ k)
  where
    calm : (s : Stage) → delete_won s ≡ true → waits s ≡ false
    calm s h = grind arith

-- an operation that puts something is no delete
put_is_no_delete : (k : ℕ) (op : Op) (what : Put) → put_of op ≡ Some what → Some (Delete k) ≡ Some op → ⊥
put_is_no_delete k op what puts e = some_not_none puts (ap put_of (sym (same_Some (Delete k) op e)))

-- the card that is held
pub held_is : (o : Option ℕ) (c : ℕ) → is_this o c ≡ true → o ≡ Some c
held_is None c e = absurd (false≢true e)
held_is (Some d) c e = ap Some (eqb-true d c e)

module _ (plan : TablePlan) (m0 : Machine) (stage : Stages) (first : Invariant m0 stage)
    (s : TableState) (r : HasMachine plan s) (now : Stages) (holds : Invariant (machine_of_table plan s r) now)
    (words : WordsLater m0.words r.words) (later : StagesLater stage now)
    (cleans : CleansSince m0.words stage r.words now)
    (seat : ℕ) (v : View) (there : get_elem? s.views seat ≡ some v)
    (since : SearchSince m0.words stage r.words ((machine_of_table plan s r).worker seat))
    (later_words : Words) (ends : Stages) (words' : WordsLater r.words later_words) (later' : StagesLater now ends)
    (old : List Hindrance) (hindered : HinderedSince (flat_from plan) m0.words stage r.words now old v) where
  -- the worker
  me : (machine_of_table plan s r).worker seat ≡ worker_of v.worker
  me = ap seat_worker there

  sound : WorkerIsSound r.words now (worker_of v.worker)
  sound = subst (WorkerIsSound r.words now) me (holds.workers.each seat)

  rely : Reliance (machine_of_table plan s r) now seat
  rely = may_rely (machine_of_table plan s r) now seat holds

  hand_later : (c : ℕ) → c < r.words.next → PlaceSince m0.words stage (r.words.p c) (r.words.was c) → PlaceSince m0.words stage (later_words.p c) (later_words.was c)
  hand_later c low h =
      let info = words'.info c low in
      subst (λ x. PlaceSince m0.words stage x (later_words.was c)) (sym info.p) (subst (λ n. PlaceSince m0.words stage (r.words.p c) n) (sym info.was) h)

  named_later : (seen : Seen) → IsBehind v.worker.search seen → (unpacked seen.word).card < later_words.next
  named_later seen h = let low = hindered.named seen h in let more = words'.next in omega arith

  -- a step that meets nothing
  calm : (u : View) → u.hindrances ≡ v.hindrances → u.met ≡ v.met → ((n : ℕ) → u.next ≡ Some n → m0.words.next ≤ n)
      → ((seen : Seen) → IsBehind u.worker.search seen → (unpacked seen.word).card < later_words.next)
      → ShowsClaims (flat_from plan) u → ((c : ℕ) → u.worker.card ≡ Some c → AreOfOthers u.next_at_least c hindered.met)
      → ((k c : ℕ) → u.worker.operation ≡ Some (Delete k) → u.worker.card ≡ Some c → u.worker.flagged ≡ true → PlaceSince m0.words stage (later_words.p c) (later_words.was c))
      → HinderedSince (flat_from plan) m0.words stage later_words ends old u
  calm u hindrances in_try read named shows own in_hand = record {
    met = hindered.met;
    list = hindrances ∙ hindered.list;
    earlier = hindered.earlier;
    tries = hindered.tries ∙ ap (λ hs. hs ++ hindered.earlier) (sym in_try);
    each = met_later m0.words stage r.words now later_words ends words' later' hindered.met hindered.each;
    next = read;
    named = named;
    shows = shows;
    own = own;
    hand = in_hand;
  }

  in_hand_still : (k c : ℕ) → v.worker.operation ≡ Some (Delete k) → v.worker.card ≡ Some c → v.worker.flagged ≡ true
      → PlaceSince m0.words stage (later_words.p c) (later_words.was c)
  in_hand_still k c busy has flagged = hand_later c (rely.hand c (ap (λ (z : Worker). z.card) me ∙ has)) (hindered.hand k c busy has flagged)

  -- one that leaves what is in hand, too
  quiet : (u : View) → u.hindrances ≡ v.hindrances → u.met ≡ v.met → u.next ≡ v.next → u.next_at_least ≡ v.next_at_least → u.worker.operation ≡ v.worker.operation → u.worker.card ≡ v.worker.card
      → u.worker.flagged ≡ v.worker.flagged → ((seen : Seen) → IsBehind u.worker.search seen → IsBehind v.worker.search seen) → HinderedSince (flat_from plan) m0.words stage later_words ends old u
  quiet u hindrances in_try read least op holds_card flag behind =
      calm u hindrances in_try (λ n e. hindered.next n (sym read ∙ e)) (λ seen h. named_later seen (behind seen h))
      (shows_on (flat_from plan) v u read least (λ c has. sym holds_card ∙ has) hindered.shows)
      (λ c has. subst (λ m. AreOfOthers m c hindered.met) (sym least) (hindered.own c (sym holds_card ∙ has)))
      (λ k c busy has flagged. in_hand_still k c (sym op ∙ busy) (sym holds_card ∙ has) (sym flag ∙ flagged))

  -- a step of another
  pub hindered_rests : HinderedSince (flat_from plan) m0.words stage later_words ends old v
  hindered_rests = quiet v refl refl refl refl refl refl refl (λ seen h. h)

  -- a step that meets one thing
  one_met : (u : View) (h : Hindrance) → u.hindrances ≡ h ∷ v.hindrances → u.met ≡ h ∷ v.met → Met m0.words stage later_words ends h → u.next ≡ v.next
      → ((seen : Seen) → IsBehind u.worker.search seen → IsBehind v.worker.search seen)
      → ShowsClaims (flat_from plan) u → ((c : ℕ) → u.worker.card ≡ Some c → AreOfOthers u.next_at_least c (h ∷ hindered.met))
      → ((k c : ℕ) → u.worker.operation ≡ Some (Delete k) → u.worker.card ≡ Some c → u.worker.flagged ≡ true → PlaceSince m0.words stage (later_words.p c) (later_words.was c))
      → HinderedSince (flat_from plan) m0.words stage later_words ends old u
  one_met u h hindrances in_try is_met read behind shows own in_hand = record {
    met = h ∷ hindered.met;
    list = hindrances ∙ ap (λ hs. h ∷ hs) hindered.list;
    earlier = hindered.earlier;
    tries = ap (λ hs. h ∷ hs) hindered.tries ∙ ap (λ hs. hs ++ hindered.earlier) (sym in_try);
    each = (is_met, met_later m0.words stage r.words now later_words ends words' later' hindered.met hindered.each);
    next = λ n e. hindered.next n (sym read ∙ e);
    named = λ seen h. named_later seen (behind seen h);
    shows = shows;
    own = own;
    hand = in_hand;
  }

  -- a word that stands at a node names a card below the claim word
  names : (x n : ℕ) → IsInternal x → Born now x → r.words.update x ≡ n → (unpacked n).card < later_words.next
  names x n inner born is = let low = (holds.words.updates x inner born).named in let more = words'.next in omega (arith, low, more, is)

  -- what an exchange finds at a node in place of a word that was read there since
  finds : (x from n : ℕ) → IsInternal x → Born now x → PlaceSince m0.words stage x from → from ≤ r.words.update x → 3 ≤ from → r.words.update x ≡ n → n ≢ from
      → Met m0.words stage later_words ends (Found (unpacked n))
  finds x from n inner born place low calm is other = let named = names x n inner born is in elim (cases_eq (n % 4) 3) [
    | inl e ↦
        let word : r.words.update x ≡ clean (n / 4) = omega (arith, is, e) in
        let rose : m0.words.update x < r.words.update x = (let a = place.least in omega (arith, a, low, is, other)) in
        let h = cleans x (n / 4) rose word (omega (arith, e, is, calm, low, other)) in
        (h.0, λ c. ends_last now ends later' (n / 4) h.1, named)
    | inr dirty ↦ (
      word_unended m0 stage (machine_of_table plan s r) now first holds words later x inner born place.there n is (λ c. dirty (clean_remainder n c)),
      λ c. absurd (dirty (clean_remainder n c)),
      named,
    )
  ]

  place_of : (seen : Seen) → SeenSince m0.words stage seen.node seen.word → PlaceSince m0.words stage seen.node seen.word
  place_of seen h = record { least = h.word; there = h.there }

  three : (n : ℕ) → IsClean n → 3 ≤ n
  three n h = let rest = clean_remainder n h in omega (arith, rest)

  -- in place of one that a search has read at a node since, which has these names
  finds_seen : (seen : Seen) (x from n : ℕ) → seen.node ≡ x → seen.word ≡ from → IsInternal seen.node → Born now seen.node → PlaceSince m0.words stage seen.node seen.word
      → seen.word ≤ r.words.update seen.node → IsClean seen.word → r.words.update x ≡ n → n ≢ from → Met m0.words stage later_words ends (Found (unpacked n))
  finds_seen seen x from n node word inner born place low calm is other =
      finds seen.node seen.word n inner born place low (three seen.word calm) (ap r.words.update node ∙ is) (λ e. other (e ∙ word))

  -- a lost claim
  claim_hindered : (c : ℕ) (q : NewNode) → May plan (call.Claim c q) v → (b : Bool) → (found_by s (call.Claim c q) == c) ≡ b → HinderedSince (flat_from plan) m0.words stage later_words ends old (after_claim b c q v)
  claim_hindered c q may true e =
      calm (after_claim true c q v) refl refl hindered.next named_later
      (record {
        read = λ n read. (let same = same_Some c n (sym may.0.read ∙ read) in omega arith);
        past = λ d has. (let same = same_Some c d has in inl (omega arith));
      })
      (λ d has.
      let same = same_Some c d has in
      let found = eqb-true (found_by s (call.Claim c q)) c e in
      let is = r.next in
      all_earlier m0.words stage r.words now d (omega arith) hindered.met hindered.each (c + 1))
      (λ k d busy has flagged. absurd (true≢false (sym flagged)))
  claim_hindered c q may false e =
      let low = (r.views seat v there).read c may.0.read in
      let is = r.next in
      let more = words'.next in
      let other : found_by s (call.Claim c q) ≢ c = (λ same. true≢false (sym (eq-eqb (found_by s (call.Claim c q)) c same) ∙ e)) in
      one_met (after_claim false c q v) (Claim c) refl refl (hindered.next c may.0.read, omega arith) refl (λ seen h. h)
      (record {
        read = λ n read. (let same = same_Some c n (sym may.0.read ∙ read) in omega arith);
        past = λ d has. (let past = later_than d has in inr ((hand_discarded (flat_from plan) v.worker d may.0.ready has).0, omega arith));
      })
      (λ d has. (
        inr (later_than d has, omega arith),
        others_more v.next_at_least (c + 1) d (hindered.shows.read c may.0.read) hindered.met (hindered.own d has),
      ))
      (λ k d busy has flagged. absurd (true≢false (sym flagged ∙ (hand_discarded (flat_from plan) v.worker d may.0.ready has).1)))
    where
      -- a card that is in hand was given out before the one that the claim word tells to be the next
      later_than : (d : ℕ) → v.worker.card ≡ Some d → d < c
      later_than d has =
          let most = hindered.shows.read c may.0.read in
          let apart : c ≢ d = (λ same. may.0.other (has ∙ ap Some (sym same))) in
          elim (hindered.shows.past d has) [
            | inl least ↦ omega arith
            | inr more ↦ (let past = more.1 in omega arith)
          ]

  -- an operation is in hand where a card is
  busy_hand : (c : ℕ) → v.worker.card ≡ Some c → (op : Op) × (v.worker.operation ≡ Some op)
  busy_hand c has = by v.worker.operation refl
    where
      by : (o : Option Op) → v.worker.operation ≡ o → (op : Op) × (v.worker.operation ≡ Some op)
      by None e = absurd (some_not_none has (ap (λ (z : Worker). z.card) (sound.free e)))
      by (Some op) e = (op, e)

  -- a card whose flag was won is flagged in hand
  flag_hand : (c : ℕ) → v.worker.card ≡ Some c → delete_won (now c) ≡ true → v.worker.flagged ≡ true
  flag_hand c has won = by v.worker.flagged refl
    where
      by : (b : Bool) → v.worker.flagged ≡ b → b ≡ true
      by true e = refl
      by false e = absurd (won_waits (now c) won (hand_waits r.words now (worker_of v.worker) c sound has e))

  -- a delete's card in hand, flagged, is of a delete
  deletes_hand : (op : Op) (c : ℕ) → v.worker.operation ≡ Some op → v.worker.card ≡ Some c → v.worker.flagged ≡ true → delete_won (now c) ≡ true
      → PlaceSince m0.words stage (r.words.p c) (r.words.was c)
  deletes_hand (Find k) c busy has flagged won = absurd (sound.flagged (Find k) c busy has flagged).0
  deletes_hand (Insert k value) c busy has flagged won =
      absurd (one_kind (now c) (insert_won-insert (now c) (sound.flagged (Insert k value) c busy has flagged).0.0) (delete_won-delete (now c) won))
  deletes_hand (Swap k was value) c busy has flagged won =
      absurd (one_kind (now c) (insert_won-insert (now c) (sound.flagged (Swap k was value) c busy has flagged).0.0) (delete_won-delete (now c) won))
  deletes_hand (Delete k) c busy has flagged won = hindered.hand k c busy has flagged

  -- the word that a delete's search read at the parent is no greater than the one there
  was_low : (c : ℕ) → delete_won (now c) ≡ true → r.words.was c ≤ r.words.update (r.words.p c)
  was_low c won =
      let does = holds.words.deletes c in
      let said = (holds.words.cards c).delete (delete_won-delete (now c) won) in
      elim (won_cases (now c) won) [
        | inl m ↦ (does.markable (ap is_markable m)).at_least
        | inr o ↦ elim o [
          | inl u ↦ (let above = does.unmarkable u in omega arith)
          | inr k ↦ (let mark = (does.marked k).mark in let low = said.earlier in omega arith)
        ]
      ]

  mark_found : (c p was : ℕ) → May plan (call.Mark c p was) v → r.words.update p ≡ found_by s (call.Mark c p was)
  mark_found c p was may =
      let p_is : r.words.p c ≡ p = told_is plan s r seat v there c field.P p may.0.place in
      let said = known_delete plan s r seat v there c (inl may.0.knows) in
      update_listed plan s r seat v there p (subst IsInternal p_is said.parent.inner) (subst (Born r.stages) p_is said.parent.born)

  -- a flag, won or lost, by what was found at its node
  flag_hindered : (k : Exchange) (c : ℕ) (new : Fact) (x : ℕ) (from n : ℕ) (b : Bool) → (n == from) ≡ b
      → ((key d : ℕ) → v.worker.operation ≡ Some (Delete key) → v.worker.card ≡ Some d → PlaceSince m0.words stage (later_words.p d) (later_words.was d))
      → (n ≢ from → Met m0.words stage later_words ends (Found (unpacked n)))
      → HinderedSince (flat_from plan) m0.words stage later_words ends old (exchanged (if_won b k c) n (after_flag b new x (unpacked n) v))
  flag_hindered k c new x from n true e in_hand lost =
      calm (exchanged (if_won true k c) n (after_flag true new x (unpacked n) v)) refl refl hindered.next named_later
      (shows_on (flat_from plan) v (exchanged (if_won true k c) n (after_flag true new x (unpacked n) v)) refl refl (λ d has. has) hindered.shows) hindered.own
      (λ key d busy has flagged. in_hand key d busy has)
  flag_hindered k c new x from n false e in_hand lost =
      one_met (exchanged [] n (after_flag false new x (unpacked n) v)) (Found (unpacked n)) refl refl
      (lost (λ q. true≢false (sym (eq-eqb n from q) ∙ e))) refl (λ seen h. h)
      (shows_on (flat_from plan) v (exchanged [] n (after_flag false new x (unpacked n) v)) refl refl (λ d has. absurd (some_not_none has refl)) hindered.shows)
      (λ d has. absurd (some_not_none has refl)) (λ key d busy has flagged. absurd (true≢false (sym flagged)))

  iflag_hindered : (c p : ℕ) (from : Update) → May plan (call.IFlag c p from) v
      → HinderedSince (flat_from plan) m0.words stage later_words ends old (after (call.IFlag c p from) (found_by s (call.IFlag c p from)) v)
  iflag_hindered c p from may =
      let n = found_by s (call.IFlag c p from) in
      let seen = may.parent in
      let stands = ap (λ (z : Worker). z.search.node) me ∙ may.stands in
      let behind = ap (λ (z : Worker). z.search.parent) me ∙ may.behind in
      let there_now = (rely.parent may.leaf seen stands behind).node in
      let there_then = ((relies plan s r seat v there).parent may.leaf seen stands behind).node in
      let is = update_listed plan s r seat v there p (subst IsInternal may.node there_then.inner) (subst (Born r.stages) may.node there_then.born) in
      let low = ((sound.stands may.op may.leaf may.busy may.stands).parent seen may.behind).0.word in
      let held = putting_hand r.words now (worker_of v.worker) may.what c may.op may.puts (sound.unflagged may.op c may.busy may.may.holds may.may.unflagged) in
      let same = same_Some held.parent seen (sym held.behind ∙ may.behind) in
      flag_hindered exchange.IFlag c (IFlagged c) p (packed from) n (n == packed from) refl
      (λ k d busy has. absurd (put_is_no_delete k may.op may.what may.puts (sym busy ∙ may.busy)))
      (finds_seen seen p (packed from) n may.node may.read there_now.inner there_now.born (place_of seen (since.parent seen behind)) low
      (subst (λ (z : Seen). IsClean z.word) same held.calm) is)

  dflag_hindered : (c gp : ℕ) (from : Update) → May plan (call.DFlag c gp from) v
      → HinderedSince (flat_from plan) m0.words stage later_words ends old (after (call.DFlag c gp from) (found_by s (call.DFlag c gp from)) v)
  dflag_hindered c gp from may =
      let n = found_by s (call.DFlag c gp from) in
      let seen = may.grandparent in
      let stands = ap (λ (z : Worker). z.search.node) me ∙ may.stands in
      let behind = ap (λ (z : Worker). z.search.parent) me ∙ may.behind in
      let above = ap (λ (z : Worker). z.search.grandparent) me ∙ may.above in
      let there_now = (rely.grandparent may.leaf may.parent seen stands behind above).node in
      let there_then = ((relies plan s r seat v there).grandparent may.leaf may.parent seen stands behind above).node in
      let is = update_listed plan s r seat v there gp (subst IsInternal may.node there_then.inner) (subst (Born r.stages) may.node there_then.born) in
      let low = ((sound.stands (Delete may.key) may.leaf may.busy may.stands).grandparent may.parent seen may.behind may.above).word in
      let held = sound.unflagged (Delete may.key) c may.busy may.may.holds may.may.unflagged in
      let same = same_Some held.grandparent seen (sym held.above ∙ may.above) in
      let own = place_of held.parent (since.parent held.parent (ap (λ (z : Worker). z.search.parent) me ∙ held.behind)) in
      let goes : PlaceSince m0.words stage (r.words.p c) (r.words.was c) =
      subst (λ x. PlaceSince m0.words stage x (r.words.was c)) held.node (subst (λ m. PlaceSince m0.words stage held.parent.node m) held.was own) in
      flag_hindered exchange.DFlag c (DFlagged c) gp (packed from) n (n == packed from) refl
      (λ k d busy has.
      let one : c ≡ d = same_Some c d (sym may.may.holds ∙ has) in
      subst (λ e. PlaceSince m0.words stage (later_words.p e) (later_words.was e)) one
      (hand_later c (rely.hand c (ap (λ (z : Worker). z.card) me ∙ may.may.holds)) goes))
      (finds_seen seen gp (packed from) n may.node may.read there_now.inner there_now.born (place_of seen (since.grandparent seen above)) low
      (subst (λ (z : Seen). IsClean z.word) same held.calm) is)

  -- a mark of the card in hand that was lost
  mark_met : (c p was n : ℕ) → May plan (call.Mark c p was) v → r.words.update p ≡ n → n ≢ was → v.worker.card ≡ Some c
      → Met m0.words stage later_words ends (Found (unpacked n))
  mark_met c p was n may is other has =
      let p_is : r.words.p c ≡ p = told_is plan s r seat v there c field.P p may.0.place in
      let was_is : r.words.was c ≡ was = told_is plan s r seat v there c field.Was was may.1 in
      let won = sound.facts (DFlagged c) may.0.knows in
      let said = (holds.words.cards c).delete (delete_won-delete (now c) won) in
      let busy = busy_hand c has in
      let flagged = flag_hand c has won in
      let place : PlaceSince m0.words stage p was =
      subst (λ x. PlaceSince m0.words stage x was) p_is (subst (λ m. PlaceSince m0.words stage (r.words.p c) m) was_is
      (deletes_hand busy.0 c busy.1 has flagged won)) in
      let low = was_low c won in
      finds p was n (subst IsInternal p_is said.parent.inner) (subst (Born now) p_is said.parent.born) place
      (subst (λ x. was ≤ r.words.update x) p_is (subst (λ m. m ≤ r.words.update (r.words.p c)) was_is low))
      (subst (λ m. 3 ≤ m) was_is (three (r.words.was c) said.calm)) is other

  -- a delete's card is not card 0
  first_card : (c : ℕ) → is_delete (now c) ≡ true → (d : ℕ) → d ≡ c → 0 < d
  first_card c deletes d e = elim (cases_eq c 0) [
    | inl q ↦ absurd (false≢true (ap is_delete (sym holds.words.opening) ∙ (ap (λ n. is_delete (now n)) (sym q) ∙ deletes)))
    | inr n ↦ omega (arith, e, n)
  ]

  -- where its mark goes, no word names a delete's card but its mark
  word_apart : (c p : ℕ) → is_delete (now c) ≡ true → r.words.p c ≡ p → IsInternal p → Born now p → m0.words.update p < r.words.update p → (st : State) (d : ℕ)
      → r.words.update p ≡ packed (record { state = st; card = d }) → is_mark_of c st d ≡ false → d ≢ c
  word_apart c p deletes place inner born rose state.IFlag d is apart e =
      let insert = insert_open-insert (now d) ((holds.words.updates p inner born).iflagged d is).0 in
      one_kind (now c) (ap (λ n. is_insert (now n)) (sym e) ∙ insert) deletes
  word_apart c p deletes place inner born rose state.DFlag d is apart e =
      let above = ((holds.words.updates p inner born).dflagged d is).1 in
      let goes = ap r.words.gp (sym e) ∙ above in
      let first = ((holds.words.cards c).delete deletes).first in
      omega (arith, ap (rank r.words) goes, ap (rank r.words) place, first)
  word_apart c p deletes place inner born rose state.Mark d is apart e = false≢true (sym apart ∙ eq-eqb d c e)
  word_apart c p deletes place inner born rose state.Clean d is apart e =
      let said = (holds.words.cards c).delete deletes in
      let h = cleans p d rose is (first_card c deletes d e) in
      elim h.2.1 [
        | inl insert ↦ one_kind (now c) (ap (λ n. is_insert (now n)) (sym e) ∙ insert.0) deletes
        | inr above ↦ (let goes = ap r.words.gp (sym e) ∙ above in let first = said.first in omega (arith, ap (rank r.words) goes, ap (rank r.words) place, first))
      ]

  -- so the card in hand is none that its lost mark found
  mark_apart : (c p was n : ℕ) → May plan (call.Mark c p was) v → r.words.update p ≡ n → n ≢ was → v.worker.card ≡ Some c
      → is_mark_of c (unpacked n).state (unpacked n).card ≡ false → (unpacked n).card ≢ c
  mark_apart c p was n may is other has apart =
      let p_is : r.words.p c ≡ p = told_is plan s r seat v there c field.P p may.0.place in
      let was_is : r.words.was c ≡ was = told_is plan s r seat v there c field.Was was may.1 in
      let won = sound.facts (DFlagged c) may.0.knows in
      let deletes = delete_won-delete (now c) won in
      let said = (holds.words.cards c).delete deletes in
      let busy = busy_hand c has in
      let place = deletes_hand busy.0 c busy.1 has (flag_hand c has won) won in
      let low = was_low c won in
      let there = ap r.words.update p_is ∙ is in
      let rose : m0.words.update (r.words.p c) < r.words.update (r.words.p c) = (let a = place.least in omega (arith, a, low, there, was_is, other)) in
      word_apart c p deletes p_is (subst IsInternal p_is said.parent.inner) (subst (Born now) p_is said.parent.born)
      (subst (λ x. m0.words.update x < r.words.update x) p_is rose) (unpacked n).state (unpacked n).card (is ∙ sym (packed_again n)) apart

  mark_hindered : (c p was : ℕ) → May plan (call.Mark c p was) v
      → HinderedSince (flat_from plan) m0.words stage later_words ends old (after (call.Mark c p was) (found_by s (call.Mark c p was)) v)
  mark_hindered c p was may = by (n == was) refl
    where
      n : ℕ
      n = found_by s (call.Mark c p was)

      is : r.words.update p ≡ n
      is = mark_found c p was may

      held : (b : Bool) → is_this v.worker.card c ≡ b → n ≢ was → is_mark_of c (unpacked n).state (unpacked n).card ≡ false → HinderedSince (flat_from plan) m0.words stage later_words ends old
          (exchanged [] n (record (unmarking c p (unpacked n) v) {
            hindrances = if b then Found (unpacked n) ∷ v.hindrances else v.hindrances;
            met = if b then Found (unpacked n) ∷ v.met else v.met;
          }))
      held true e other apart = one_met _ (Found (unpacked n)) refl refl (mark_met c p was n may is other (held_is v.worker.card c e)) refl (λ seen h. h)
          (shows_on (flat_from plan) v _ refl refl (λ d has. has) hindered.shows)
          (λ d has.
          let one : c ≡ d = same_Some c d (sym (held_is v.worker.card c e) ∙ has) in
          (λ q. mark_apart c p was n may is other (held_is v.worker.card c e) apart (q ∙ sym one), hindered.own d has))
          (λ k d busy has flagged. hand_later d (rely.hand d (ap (λ (z : Worker). z.card) me ∙ has)) (hindered.hand k d busy has flagged))
      held false e other apart = quiet _ refl refl refl refl refl refl refl (λ seen h. h)

      lost : (b : Bool) → is_mark_of c (unpacked n).state (unpacked n).card ≡ b → n ≢ was → HinderedSince (flat_from plan) m0.words stage later_words ends old (exchanged [] n (if b then with_fact (Marked c) v else unmarking c p (unpacked n) v))
      lost true e other = quiet _ refl refl refl refl refl refl refl (λ seen h. h)
      lost false e other = held (is_this v.worker.card c) refl other e

      by : (b : Bool) → (n == was) ≡ b → HinderedSince (flat_from plan) m0.words stage later_words ends old (exchanged (if_won b exchange.Mark c) n (after_mark b c p (unpacked n) v))
      by true e = quiet _ refl refl refl refl refl refl refl (λ seen h. h)
      by false e = lost (is_mark_of c (unpacked n).state (unpacked n).card) refl (λ q. true≢false (sym (eq-eqb n was q) ∙ e))

  -- a search that has gone down has the word behind it that it read
  went_down : (x : ℕ) (right : Bool) → May plan (call.Down x right) v → (seen : Seen) → IsBehind (after (call.Down x right) (found_by s (call.Down x right)) v).worker.search seen
      → (unpacked seen.word).card < later_words.next
  went_down x right may seen (inl e) =
      let read : unwrap_or v.worker.search.read 0 ≡ may.word = ap (λ o. unwrap_or o 0) may.read in
      let low = rely.has_read x may.word (ap (λ (z : Worker). z.search.node) me ∙ may.stands) may.inner (ap (λ (z : Worker). z.search.read) me ∙ may.read) in
      let more = words'.next in
      subst (λ (z : Seen). (unpacked z.word).card < later_words.next) (same_Some (seen_below v x (found_by s (call.Down x right))) seen e)
      (subst (λ n. (unpacked n).card < later_words.next) (sym read) (omega arith))
  went_down x right may seen (inr e) = named_later seen (inl e)

  -- the end of a try, with nothing in hand then, nor anything behind the search
  tried : (u : View) (way : List Hindrance) → u.hindrances ≡ way ++ v.hindrances → AllMet m0.words stage later_words ends way → u.met ≡ []
      → u.worker.search.parent ≡ None → u.worker.search.grandparent ≡ None → ((n : ℕ) → u.next ≡ Some n → v.next ≡ Some n) → u.next_at_least ≡ v.next_at_least → u.worker.card ≡ None
      → HinderedSince (flat_from plan) m0.words stage later_words ends old u
  tried u way hindrances each none behind above read least no_card = record {
    met = way ++ hindered.met;
    list = hindrances ∙ (ap (λ hs. way ++ hs) hindered.list ∙ sym (append_assoc way hindered.met old));
    earlier = way ++ hindered.met;
    tries = ap (λ hs. hs ++ (way ++ hindered.met)) (sym none);
    each = all_append m0.words stage later_words ends way hindered.met each
        (met_later m0.words stage r.words now later_words ends words' later' hindered.met hindered.each);
    next = λ n e. hindered.next n (read n e);
    shows = record {
      read = λ n e. subst (λ m. m ≤ n + 1) (sym least) (hindered.shows.read n (read n e));
      past = λ c has. absurd (some_not_none has no_card);
    };
    named = λ seen h. elim h [
      | inl e ↦ absurd (some_not_none e behind)
      | inr e ↦ absurd (some_not_none e above)
    ];
    own = λ c has. absurd (some_not_none has no_card);
    hand = λ k c busy has flagged. absurd (some_not_none has no_card);
  }

  -- what the search has read in the way of a try that is given up
  way_was_met : AllMet m0.words stage later_words ends (way_now v)
  way_was_met =
      way_met m0.words stage later_words ends v.worker.operation v.worker.search.node v.worker.search.parent v.worker.search.grandparent
      (λ seen e. (since.parent seen (ap (λ (z : Worker). z.search.parent) me ∙ e), named_later seen (inl e)))
      (λ seen e. (since.grandparent seen (ap (λ (z : Worker). z.search.grandparent) me ∙ e), named_later seen (inr e)))

  -- any call that keeps on
  pub call_hindered : (c : Call) → KeepsOn c → May plan c v → HinderedSince (flat_from plan) m0.words stage later_words ends old (after c (found_by s c) v)
  call_hindered (call.Begin op) keeps may = absurd keeps
  call_hindered call.Again keeps may = tried (after_again v) (way_now v) refl way_was_met refl refl refl (λ n e. absurd (some_not_none e refl)) refl refl
  call_hindered call.Leave keeps may = tried (after_leave v) (way_now v) refl way_was_met refl refl refl (λ n e. e) refl refl
  call_hindered (call.Answer said took) keeps may = tried (after_answer said took v) [] refl tt refl refl refl (λ n e. e) refl refl
  call_hindered call.Rest keeps may = tried (after_rest v) [] refl tt refl refl refl (λ n e. e) refl refl
  call_hindered (call.Upd x) keeps may = quiet _ refl refl refl refl refl refl refl (λ seen h. h)
  call_hindered (call.Down x right) keeps may =
      calm (after (call.Down x right) (found_by s (call.Down x right)) v) refl refl hindered.next (went_down x right may)
      (shows_on (flat_from plan) v (after (call.Down x right) (found_by s (call.Down x right)) v) refl refl (λ c has. has) hindered.shows) hindered.own in_hand_still
  call_hindered call.Next keeps may =
      calm (after call.Next (found_by s call.Next) v) refl refl
      (λ n e. (let same = same_Some (found_by s call.Next) n e in let is = r.next in let more = words.next in omega arith))
      named_later
      (record {
        read = λ n e. (let same = same_Some (found_by s call.Next) n e in let is = r.next in let least = (r.views seat v there).least in omega arith);
        past = hindered.shows.past;
      })
      hindered.own in_hand_still
  call_hindered (call.KeyOf x) keeps may = quiet _ refl refl refl refl refl refl refl (λ seen h. h)
  call_hindered (call.ValueOf x) keeps may = quiet _ refl refl refl refl refl refl refl (λ seen h. h)
  call_hindered (call.Info c f) keeps may = quiet _ refl refl refl refl refl refl refl (λ seen h. h)
  call_hindered (call.FrozenChild c p right) keeps may = quiet _ refl refl refl refl refl refl refl (λ seen h. h)
  call_hindered call.Look keeps may = quiet _ refl refl refl refl refl refl refl (λ seen h. h)
  call_hindered (call.LookDown from key right) keeps may = quiet _ refl refl refl refl refl refl refl (λ seen h. h)
  call_hindered (call.Claim c q) keeps may = claim_hindered c q may (found_by s (call.Claim c q) == c) refl
  call_hindered (call.Fill c f value) keeps may = quiet _ refl refl refl refl refl refl refl (λ seen h. h)
  call_hindered (call.IFlag c p from) keeps may = iflag_hindered c p from may
  call_hindered (call.IChild c p l replaces right) keeps may = quiet _ refl refl refl refl refl refl refl (λ seen h. h)
  call_hindered (call.IUnflag c p) keeps may = quiet _ refl refl refl refl refl refl refl (λ seen h. h)
  call_hindered (call.DFlag c gp from) keeps may = dflag_hindered c gp from may
  call_hindered (call.Mark c p was) keeps may = mark_hindered c p was may
  call_hindered (call.DChild c gp p y right) keeps may = quiet _ refl refl refl refl refl refl refl (λ seen h. h)
  call_hindered (call.DUnflag c gp) keeps may = quiet _ refl refl refl refl refl refl refl (λ seen h. h)
  call_hindered (call.Backtrack c gp) keeps may = quiet _ refl refl refl refl refl refl refl (λ seen h. h)
