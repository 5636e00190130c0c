use Rattle.std.specs.Prelude.{◌≡◌, ◌≢◌, ℕ, ◌+◌, ◌<◌, ◌≤◌, ◌⊎◌, ◌||◌, Bool, true, false, Some, None, List, [], ◌∷◌, ◌++◌}
use mathlib.Core.Option.{some}
use lib.ListN.{get_elem?}
use Rattle.ell_word.specs.Word.{unpacked}
use Rattle.ell_word.specs.declared.update.State.TheVariants as state
use Rattle.ell_core.specs.declared.exchange.Exchange.{Exchange}
use Rattle.ell_core.specs.declared.exchange.Exchange.TheVariants as exchange
use Rattle.ell_core.specs.declared.view.Seen.{Seen}
use Rattle.ell_core.specs.acts.Searching.{at_root}
use Rattle.ell_runs.specs.declared.call.Call.{Call}
use Rattle.ell_runs.specs.declared.call.Call.TheVariants as call
use Rattle.ell_runs.specs.declared.view.Hindrance.{Hindrance}
use Rattle.ell_runs.specs.declared.view.Hindrance.TheVariants.{Claim, Found}
use Rattle.ell_runs.specs.declared.view.View.{View}
use Rattle.ell_runs.specs.Plans.{TablePlan, flat_from}
use Rattle.ell_runs.specs.Views.{EndedBy}
use Rattle.ell_runs.specs.Changes.{way_now}
use Rattle.ell_runs.specs.States.{TableState}
use Rattle.ell_runs.specs.Turns.{Turn, Makes, Splits, Joins, CallIsMade, TableRun}
use Rattle.ell_runs.specs.TurnEffects.{own_words, run_wins}
use Rattle.ell_runs.specs.Starts.{Starts}

-- whether a win ends what its card was for: it takes the card's flag away
abbrev pub is_end : Exchange → Bool
is_end exchange.IUnflag = true
is_end exchange.DUnflag = true
is_end exchange.Backtrack = true
is_end _ = false

-- whether one of these wins does
abbrev pub has_end : List Exchange → Bool
has_end [] = false
has_end (k ∷ ks) = is_end k || has_end ks

-- a step call that takes no operation in hand
abbrev pub KeepsOn : Call → Type 0
KeepsOn (call.Begin op) = ⊥
KeepsOn _ = Unit {0}

-- in these turns the pass in a seat makes no other, and is not split or joined
abbrev pub KeepOn : ℕ → List Turn → Type 0
KeepOn seat [] = Unit {0}
KeepOn seat (Makes other c ∷ ts) = (other ≡ seat → KeepsOn c) × KeepOn seat ts
KeepOn seat (Splits other left ∷ ts) = (other ≢ seat) × KeepOn seat ts
KeepOn seat (Joins one other ∷ ts) = (one ≢ seat) × (other ≢ seat) × KeepOn seat ts

-- the pass in a seat begins its search here
pub record BeginsHere (s : TableState) (seat : ℕ) : Type 0 where
  pub view : View
  pub there : get_elem? s.views seat ≡ some view
  pub root : view.worker.search ≡ at_root
  pub no_card : view.worker.card ≡ None
  pub unread : view.next ≡ None
  pub unmet : view.met ≡ []

-- a step call that begins a search
abbrev pub IsBeginning : Call → Type 0
IsBeginning (call.Begin op) = Unit {0}
IsBeginning call.Again = Unit {0}
IsBeginning _ = ⊥

-- after it a search begins there
abbrev pub SearchesBeginThere : Type 0
SearchesBeginThere = (plan : TablePlan) (s : TableState) (seat : ℕ) (c : Call) (s' : TableState) → CallIsMade plan s seat c s'
    → IsBeginning c → BeginsHere s' seat

-- a run of a table from its start: it leads to a state where the pass in a seat begins a search, and then goes on by
-- any turns of any passes, while that pass takes no other operation in hand: it may begin its search anew, again and
-- again, and give its operation up
pub record SearchRun (plan : TablePlan) : Type 0 where
  pub opened : TableState
  pub starts : Starts plan opened
  pub before : List Turn
  pub begun : TableState
  pub led : TableRun plan opened before begun
  pub seat : ℕ
  pub begins : BeginsHere begun seat
  pub meanwhile : List Turn
  pub now : TableState
  pub run : TableRun plan begun meanwhile now
  pub keeps : KeepOn seat meanwhile
  pub view : View
  pub there : get_elem? now.views seat ≡ some view

-- whether what a card was for had come to its end when the search began
abbrev pub ended_before : (plan : TablePlan) → SearchRun plan → ℕ → Bool
ended_before plan r c = has_end (run_wins plan r.opened r.before r.begun r.led c)

-- whether it has come to its end since
abbrev pub ended_since : (plan : TablePlan) → SearchRun plan → ℕ → Bool
ended_since plan r c = has_end (run_wins plan r.begun r.meanwhile r.now r.run c)

-- a card had not ended when the search began; and if the pass knows now that it has, then that was since
pub record EndsMeanwhile (plan : TablePlan) (r : SearchRun plan) (c : ℕ) : Type 0 where
  pub before : ended_before plan r c ≡ false
  pub since : EndedBy r.view.worker.knows c → ended_since plan r c ≡ true

-- an update word is clean, or of such a card
abbrev pub WordEndsMeanwhile : (plan : TablePlan) → SearchRun plan → ℕ → Type 0
WordEndsMeanwhile plan r word = (unpacked word).state ≢ state.Clean → EndsMeanwhile plan r (unpacked word).card

-- so is each update word that its search has read and has with it: where it stands, at the parent, at the grandparent
pub record ReadsMeanwhile (plan : TablePlan) (r : SearchRun plan) : Type 0 where
  pub here : (x word : ℕ) → r.view.worker.search.node ≡ Some x → r.view.worker.search.read ≡ Some word
      → WordEndsMeanwhile plan r word
  pub parent : (seen : Seen) → r.view.worker.search.parent ≡ Some seen → WordEndsMeanwhile plan r seen.word
  pub grandparent : (seen : Seen) → r.view.worker.search.grandparent ≡ Some seen → WordEndsMeanwhile plan r seen.word

-- what was in the way is of this time: a claim was lost of a card that was given out since; or an update was found of a
-- card that is given out by now, had not ended when the search began, and has since, where the update is a clean one,
-- or the pass knows now that it has
abbrev pub IsMeanwhile : (plan : TablePlan) → SearchRun plan → Hindrance → Type 0
IsMeanwhile plan r (Claim c) = ((own_words r.begun).next ≤ c) × (c < (own_words r.now).next)
IsMeanwhile plan r (Found u) =
    EndsMeanwhile plan r u.card × (u.state ≡ state.Clean → ended_since plan r u.card ≡ true)
    × (u.card < (own_words r.now).next)

abbrev pub AreMeanwhile : (plan : TablePlan) → SearchRun plan → List Hindrance → Type 0
AreMeanwhile plan r [] = Unit {0}
AreMeanwhile plan r (h ∷ hs) = IsMeanwhile plan r h × AreMeanwhile plan r hs

-- each of these is of another card than this: a lost claim of an earlier one, or of a later one below this number
abbrev pub AreOfOthers : ℕ → ℕ → List Hindrance → Type 0
AreOfOthers least c [] = Unit {0}
AreOfOthers least c (Claim d ∷ hs) = ((d < c) ⊎ ((c < d) × (d < least))) × AreOfOthers least c hs
AreOfOthers least c (Found u ∷ hs) = (u.card ≢ c) × AreOfOthers least c hs

-- the claims of a pass that has this card in hand have shown this of the claim word: that the card was given out; in a
-- flat tree they may have shown more, where one was lost while the card was in hand
abbrev pub IsPast : ℕ → ℕ → ℕ → Type 0
IsPast from least c = (least ≡ c + 1) ⊎ ((0 < from) × (c + 1 < least))

-- so is all that came to be in the way since that search began, in as many tries as there were: what a lost claim, flag
-- or mark has found, and what the search of a try that was given up had read where it was to act. What the try in hand
-- met is the last of it. While a card is in hand, none of it is of that card, and what the search has read is not in
-- the way. Each lost claim is of an earlier card; but in a flat tree one may be lost while that card is in hand, and is
-- of a later one then, which the pass's claims have shown to be given out
pub record MetMeanwhile (plan : TablePlan) (r : SearchRun plan) : Type 0 where
  pub met : List Hindrance
  pub list : r.view.hindrances ≡ met ++ r.begins.view.hindrances
  pub earlier : List Hindrance
  pub tries : met ≡ r.view.met ++ earlier
  pub each : AreMeanwhile plan r met
  pub own : (c : ℕ) → r.view.worker.card ≡ Some c → AreOfOthers r.view.next_at_least c met
  pub past : (c : ℕ) → r.view.worker.card ≡ Some c → IsPast (flat_from plan) r.view.next_at_least c
  pub free : (c : ℕ) → r.view.worker.card ≡ Some c → way_now r.view ≡ []

-- what a search has read since it began, in every run
abbrev pub SearchesReadMeanwhile : Type 0
SearchesReadMeanwhile = (plan : TablePlan) (r : SearchRun plan) → ReadsMeanwhile plan r

-- and what came to be in its way
abbrev pub SearchesMeetMeanwhile : Type 0
SearchesMeetMeanwhile = (plan : TablePlan) (r : SearchRun plan) → MetMeanwhile plan r

-- the milestones of which a pass knows were reached in a run: the cards that its claims have shown to be given out are,
-- and each card that it knows to have come to its end did so
pub record KnowsWhatIsReached (plan : TablePlan) (first : TableState) (turns : List Turn) (s : TableState)
    (run : TableRun plan first turns s) (v : View) : Type 0 where
  pub given_out : v.next_at_least ≤ (own_words s).next
  pub ended : (c : ℕ) → EndedBy v.worker.knows c → has_end (run_wins plan first turns s run c) ≡ true

-- so it is of each pass after every run from a start
abbrev pub KnownMilestonesWereReached : Type 0
KnownMilestonesWereReached =
    (plan : TablePlan) (first : TableState) → Starts plan first → (turns : List Turn) (s : TableState)
    (run : TableRun plan first turns s) (seat : ℕ) (v : View) → get_elem? s.views seat ≡ some v
    → KnowsWhatIsReached plan first turns s run v
