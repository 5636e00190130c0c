use Rattle.std.proofs.Common.{◌≡◌, ◌⊎◌, inl, inr, ◌+◌, ◌<◌, ◌≤◌, ℕ, true, false, IsTrue, not, List, [], ◌∷◌, ◌++◌, length, take, drop, get_or, Option, None, Some, Result, Ok, Err, refl, sym, ap, ◌∙◌, arith, ⊎_elim, add-one, subst}
use Rattle.std.proofs.lemmas.Bool.{cases_Bool, cond-true, cond-false}
use Rattle.std.proofs.lemmas.List.{append-nil, take_all, take_more, length-drop}
use Rattle.std.proofs.lemmas.List.Elements.{filter-append}
use Rattle.ell_text.specs.declared.replay.ReplayFault.{ReplayFault}
use Rattle.ell_text.specs.declared.replay.ReplayFault.TheVariants.{Ended}
use Rattle.ell_text.specs.declared.replay_line.ReplayLineFault.{ReplayLineFault}
use Rattle.ell_text.specs.declared.replay_line.Said.{Said}
use Rattle.ell_text.specs.Bulk.{first}
use Rattle.ell_text.specs.replays.Draft.{DraftValue, count_in_draft, finished, no_draft, place_in_draft, with_line}
use Rattle.ell_text.specs.Lines.{is_skipped}
use Rattle.ell_text.specs.replays.ReplayLine.{replay_line_at}
use Rattle.ell_text.specs.replays.Script.{HasSoundEntry, ScriptValue, is_kept, place_after, replay_fault_at, replay_fault_of, replay_line, script_of, spoken, unless_replay_fault}
use Rattle.ell_text.proofs.lemmas.Operations.{first_more, first_stays, line_at}
use Rattle.ell_text.proofs.lemmas.Drafts.{HasHeads, draft_count, draft_of, drafted, draft_finished, draft_place}
use Rattle.ell_text.proofs.lemmas.Said.{says_nothing, says_something}

-- the lines before the index have no fault and say the draft, and the rest comes after them
pub record IsDraftedTo (text rest : List (List ℕ)) (index : ℕ) (d : DraftValue) : Type 0 where
  pub in_text : index ≤ length text
  pub left : rest ≡ drop index text
  pub sound : first (replay_fault_at text) index ≡ None
  pub heads : HasHeads (spoken (take index text))
  pub said : d ≡ draft_of (spoken (take index text))

-- before the first line
pub drafted_none : (text rest : List (List ℕ)) (index : ℕ) (d : DraftValue) → rest ≡ text → index ≡ 0 → d ≡ no_draft → IsDraftedTo text rest index d
drafted_none text rest index d whole none said = record {
  in_text = omega arith;
  left = whole ∙ sym (ap (λ n. drop n text) none);
  sound = ap (first (replay_fault_at text)) none;
  heads = subst (λ (n : ℕ). HasHeads (spoken (take n text))) (sym none) tt;
  said = said ∙ sym (ap (λ n. draft_of (spoken (take n text))) none);
}

-- the lines that are not skipped, with one line more
spoken_more : (text : List (List ℕ)) (i : ℕ) → i < length text → spoken (take (i + 1) text) ≡ spoken (take i text) ++ spoken (get_or text i [] ∷ [])
spoken_more text i within = ap spoken (take_more text i [] within) ∙ filter-append (λ line. not (is_skipped line)) (take i text) (get_or text i [] ∷ [])

skipped_alone : (line : List ℕ) → is_skipped line ≡ true → spoken (line ∷ []) ≡ []
skipped_alone line skipped = cond-false _ _ _ (ap not skipped)

spoken_alone : (line : List ℕ) → is_skipped line ≡ false → spoken (line ∷ []) ≡ line ∷ []
spoken_alone line is = cond-true _ _ _ (ap not is)

-- a line without a fault says something or nothing
sound_says : (number before : ℕ) (r : Result (Option Said) ReplayLineFault) → replay_fault_of number before r ≡ None → (r ≡ Ok None) ⊎ ((said : Said) × (r ≡ Ok (Some said)))
sound_says number before (Ok None) sound = inl refl
sound_says number before (Ok (Some said)) sound = inr (said, refl)
sound_says number before (Err fault) sound = absurd cc

-- the draft of the lines and one more
step_draft : (text : List (List ℕ)) (line : List ℕ) (r : Result (Option Said) ReplayLineFault) (number before : ℕ)
    → HasHeads text → r ≡ replay_line_at (place_after text) line → replay_fault_of number before r ≡ None
    → HasHeads (text ++ spoken (line ∷ [])) × (with_line (draft_of text) r ≡ draft_of (text ++ spoken (line ∷ [])))
step_draft text line r number before heads is sound = ⊎_elim
    (λ skipped.
    let same : text ++ spoken (line ∷ []) ≡ text = ap (λ more. text ++ more) (skipped_alone line skipped) ∙ append-nil text in
    let nothing : r ≡ Ok None = is ∙ says_nothing (place_after text) line skipped in
    (subst HasHeads (sym same) heads, ap (with_line (draft_of text)) nothing ∙ sym (ap draft_of same)))
    (λ whole.
    let one : text ++ spoken (line ∷ []) ≡ text ++ line ∷ [] = ap (λ more. text ++ more) (spoken_alone line whole) in
    ⊎_elim
    (λ none. absurd (says_something (place_after text) line whole (sym is ∙ none)))
    (λ some.
    let done = drafted text line some.0 heads whole (sym is ∙ some.1) in
    (subst HasHeads (sym one) done.heads, ap (with_line (draft_of text)) some.1 ∙ sym done.draft ∙ sym (ap draft_of one)))
    (sound_says number before r sound))
    (cases_Bool (is_skipped line))

-- the line at the index is next
module _ (text more : List (List ℕ)) (line : List ℕ) (index : ℕ) (d : DraftValue) (known : IsDraftedTo text (line ∷ more) index d) where
  -- what the line says at the draft's place is what it says in the text
  line_here : replay_line_at (place_in_draft d) line ≡ replay_line text index
  line_here =
      let here = line_at line more text index known.left in
      ap (λ draft. replay_line_at (place_in_draft draft) line) known.said
      ∙ ap (λ place. replay_line_at place line) (draft_place (spoken (take index text)) known.heads)
      ∙ ap (replay_line_at (place_after (spoken (take index text)))) here.1

  -- the first fault up to this line is this line's
  first_here : first (replay_fault_at text) (index + 1) ≡ replay_fault_of (index + 1) (count_in_draft d) (replay_line_at (place_in_draft d) line)
  first_here =
      first_more (replay_fault_at text) index known.sound
      ∙ ap (λ n. replay_fault_of (index + 1) n (replay_line text index)) (sym (ap count_in_draft known.said ∙ draft_count (spoken (take index text))))
      ∙ ap (replay_fault_of (index + 1) (count_in_draft d)) (sym line_here)

  -- this line is read too, where it has no fault
  pub drafted_more : (next : ℕ) (new : DraftValue) → next ≡ index + 1
      → replay_fault_of (index + 1) (count_in_draft d) (replay_line_at (place_in_draft d) line) ≡ None
      → new ≡ with_line d (replay_line_at (place_in_draft d) line) → IsDraftedTo text more next new
  drafted_more next new step none said =
      let here = line_at line more text index known.left in
      let before = spoken (take index text) in
      let front : spoken (take next text) ≡ before ++ spoken (line ∷ []) =
      ap (λ n. spoken (take n text)) step ∙ spoken_more text index here.0 ∙ ap (λ found. before ++ spoken (found ∷ [])) (sym here.1) in
      let at_place : replay_line_at (place_in_draft d) line ≡ replay_line_at (place_after before) line =
      line_here ∙ ap (replay_line_at (place_after before)) (sym here.1) in
      let done = step_draft before line (replay_line_at (place_in_draft d) line) (index + 1) (count_in_draft d) known.heads at_place none in
      record {
        in_text = omega (arith, here.0);
        left = here.2 ∙ sym (ap (λ n. drop n text) (step ∙ add-one index));
        sound = ap (first (replay_fault_at text)) step ∙ first_here ∙ none;
        heads = subst HasHeads (sym front) done.0;
        said = said ∙ ap (λ draft. with_line draft (replay_line_at (place_in_draft d) line)) known.said ∙ done.1 ∙ sym (ap draft_of front);
      }

  -- a fault of this line is the text's
  pub drafted_fault : (fault : ReplayFault) → replay_fault_of (index + 1) (count_in_draft d) (replay_line_at (place_in_draft d) line) ≡ Some fault
      → unless_replay_fault (first (replay_fault_at text) (length text)) (script_of (spoken text)) ≡ Err fault
  drafted_fault fault found =
      let here = line_at line more text index known.left in
      ap (λ o. unless_replay_fault o (script_of (spoken text))) (first_stays (replay_fault_at text) fault (index + 1) (length text) (omega (arith, here.0)) (first_here ∙ found))

  -- memory may run out at this line
  pub drafted_stops : replay_fault_of (index + 1) (count_in_draft d) (replay_line_at (place_in_draft d) line) ≡ None
      → IsTrue (is_kept (replay_line_at (place_in_draft d) line)) → HasSoundEntry text
  drafted_stops none kept =
      let here = line_at line more text index known.left in
      record {
        at = index;
        within = here.0;
        kept = subst (λ (r : Result (Option Said) ReplayLineFault). IsTrue (is_kept r)) line_here kept;
        sound = first_here ∙ none;
      }

-- behind the last line
module _ (text : List (List ℕ)) (index : ℕ) (d : DraftValue) (known : IsDraftedTo text [] index d) where
  at_end : length text ≡ index
  at_end = omega (arith, known.in_text, ap length known.left, length-drop index text)

  script_here : unless_replay_fault (first (replay_fault_at text) (length text)) (script_of (spoken text)) ≡ unless_replay_fault None (finished d)
  script_here =
      ap (λ n. unless_replay_fault (first (replay_fault_at text) n) (script_of (spoken text))) at_end
      ∙ ap (λ fault. unless_replay_fault fault (script_of (spoken text))) known.sound
      ∙ ap (unless_replay_fault None) (sym (ap finished (known.said ∙ ap (λ front. draft_of (spoken front)) (take_all index text (omega (arith, at_end)))) ∙ draft_finished (spoken text)))

  -- the text's script is the draft's
  pub drafted_script : (s : ScriptValue) → finished d ≡ Some s → unless_replay_fault (first (replay_fault_at text) (length text)) (script_of (spoken text)) ≡ Ok s
  drafted_script s found = script_here ∙ ap (unless_replay_fault None) found

  -- the text ends too early
  pub drafted_ended : finished d ≡ None → unless_replay_fault (first (replay_fault_at text) (length text)) (script_of (spoken text)) ≡ Err Ended
  drafted_ended none = script_here ∙ ap (unless_replay_fault None) none
