use Rattle.std.proofs.Common.{◌≡◌, ℕ, zero, suc, ◌<◌, ◌+◌, Option, List, [], ◌∷◌, ◌++◌, length, refl, sym, ap, ◌∙◌, subst, arith}
use mathlib.Core.Option.{some, some-injective, some-ne-none}
use lib.ListN.{get_elem?}
use Rattle.ell_ops.specs.declared.op.Op.{Op}
use Rattle.ell_ops.specs.declared.reply.Reply.{Reply}
use Rattle.ell_runs.specs.declared.call.Call.TheVariants as call
use Rattle.ell_runs.specs.Turns.{Turn, Makes}
use Rattle.ell_runs.specs.Meanwhile.{KeepOn}
use Rattle.ell_runs.specs.Linearizing.{IsItsCall, LastAnswersAreOfCalls}
use Rattle.ell_runs.proofs.lemmas.runs.Searched.{first_keeps}
use Rattle.ell_runs.proofs.lemmas.runs.LinearizingCalls.{first_alone}
use Rattle.ell_runs.proofs.lemmas.runs.Answering.{answers_with_card}

-- what stands behind a list
pub behind : {A : Type 0} (a b : List A) (k n : ℕ) → n ≡ length a + k → get_elem? (a ++ b) n ≡ get_elem? b k
behind [] b k n e = (let same : n ≡ k = omega arith in ap (get_elem? b) same)
behind (x ∷ xs) b k zero e = absurd (omega arith)
behind (x ∷ xs) b k (suc n) e = behind xs b k n (omega arith)

-- and in it
pub ahead : {A : Type 0} (a b : List A) (n : ℕ) → n < length a → get_elem? (a ++ b) n ≡ get_elem? a n
ahead [] b n h = absurd (omega arith)
ahead (x ∷ xs) b zero h = refl
ahead (x ∷ xs) b (suc n) h = ahead xs b n (omega arith)

-- turns in which a pass goes on are such, one by one
pub each_keeps : (seat : ℕ) (turns : List Turn) → KeepOn seat turns → (n : ℕ) (t : Turn) → get_elem? turns n ≡ some t → KeepOn seat (t ∷ [])
each_keeps seat [] on n t e = absurd (some-ne-none t (sym e))
each_keeps seat (u ∷ us) on zero t e = subst (λ x. KeepOn seat (x ∷ [])) (some-injective u t e) (first_alone seat u us on)
each_keeps seat (u ∷ us) on (suc n) t e = each_keeps seat us (first_keeps seat u us on).1 n t e

-- a call's turns, and what follows
abbrev call_turns : ℕ → Op → Reply → Option ℕ → List Turn → List Turn → List Turn
call_turns seat op said took during later = Makes seat (call.Begin op) ∷ (during ++ Makes seat (call.Answer said took) ∷ later)

-- a call among other turns
call_among : (seat : ℕ) (op : Op) (said : Reply) (took : Option ℕ) (earlier during later : List Turn) → KeepOn seat during
    → IsItsCall (earlier ++ call_turns seat op said took during later) seat op said
call_among seat op said took earlier during later on = record {
  begin = length earlier;
  end = length earlier + suc (length during);
  ended = record {
    seat = seat;
    begins = behind earlier (call_turns seat op said took during later) 0 (length earlier) (omega arith);
    later = omega arith;
    on = λ k t low high e. between k t low high e;
    took = took;
    answers = behind earlier (call_turns seat op said took during later) (suc (length during)) (length earlier + suc (length during)) refl
        ∙ behind during (Makes seat (call.Answer said took) ∷ later) 0 (length during) (omega arith);
  };
  own = refl;
}
  where
    at : (k : ℕ) (t : Turn) (n : ℕ) → k ≡ length earlier + suc n → n < length during → get_elem? (earlier ++ call_turns seat op said took during later) k ≡ some t → KeepOn seat (t ∷ [])
    at k t n is less e =
        each_keeps seat during on n t (sym (ahead during (Makes seat (call.Answer said took) ∷ later) n less) ∙ (sym (behind earlier (call_turns seat op said took during later) (suc n) k is) ∙ e))

    from : (k first : ℕ) → first < k → (n : ℕ) × (k ≡ first + suc n)
    from zero first h = absurd (omega arith)
    from (suc k) zero h = (k, omega arith)
    from (suc k) (suc first) h = (let rest = from k first (omega arith) in let is = rest.1 in (rest.0, omega arith))

    between : (k : ℕ) (t : Turn) → length earlier < k → k < length earlier + suc (length during) → get_elem? (earlier ++ call_turns seat op said took during later) k ≡ some t → KeepOn seat (t ∷ [])
    between k t low high e = (let n = from k (length earlier) low in let is = n.1 in at k t n.0 is (omega arith) e)

-- what a pass answered last is a call's
pub last_answers_are_of_calls : LastAnswersAreOfCalls
last_answers_are_of_calls plan v op said card took answered opened starts turns s' run seat there =
    let h = (answers_with_card plan v op said card took answered opened starts turns s' run seat there).0 in
    subst (λ ts. IsItsCall ts seat op said) (sym h.is) (call_among seat op said h.called.took h.earlier h.during h.later h.called.on)
