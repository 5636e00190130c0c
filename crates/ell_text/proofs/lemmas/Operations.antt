use Rattle.std.proofs.Common.{◌≡◌, ◌+◌, ◌<◌, ◌≤◌, ℕ, zero, suc, true, false, ◌&&◌, List, [], ◌∷◌, ◌++◌, length, take, drop, get_or, Option, None, Some, IsSome, is_some, Ok, Err, refl, sym, ap, ◌∙◌, arith, ⊎_elim, add-one}
use Rattle.std.proofs.lemmas.Bool.{cases_Bool, cases_eq, cond-true}
use Rattle.std.proofs.lemmas.List.{length-drop, take_all, take_more}
use Rattle.std.proofs.lemmas.List.Elements.{filter_map-append}
use Rattle.std.proofs.lemmas.List.Folds.{list_all-append}
use Rattle.std.specs.List.{cons_option, list_all}
use Rattle.std.specs.Option.{option_or, option_to_list}
use Rattle.ell_text.specs.declared.bulk.TextFault.{TextFault}
use Rattle.ell_text.specs.declared.line.Line.TheVariants as says
use Rattle.ell_text.specs.declared.line.Section.TheVariants.{Head, Opening}
use Rattle.ell_text.specs.declared.version.Version.{Version}
use Rattle.ell_text.specs.declared.version.Version.TheVariants.{Two}
use Rattle.ell_text.specs.Bulk.{BulkValue, HasSoundLine, fault_at, fault_of, first, line_behind, line_at as line_in, next_section, operation_in, said, said_by, section_behind, spoken_in, start_in, unless_fault, version_of, with_line, with_read}
use Rattle.ell_text.specs.Line.{line_of, said_in, says_version, unless_skipped}
use Rattle.ell_text.specs.Lines.{is_skipped}
use Rattle.ell_text.specs.Version.{version_number, version_numbered}
use Rattle.ell_text.proofs.lemmas.Bulks.{at_head, by_name, line_by_name, name_in_opening, no_version, past_head, says_without_fault, with_added, with_nothing, with_pieces}
use Rattle.ell_text.proofs.lemmas.Versions.{numbered, said_by_skipped, skipped_line, version_behind_skipped, version_behind_spoken, version_of_head, version_of_other, version_of_skipped, version_skipped_more}

-- what is there, alone
pub cons_option-nil : {X : Type 0} (o : Option X) → cons_option o [] ≡ option_to_list o
cons_option-nil None = refl
cons_option-nil (Some x) = refl

-- what the lines say in a version, with one line more
said_by_more : (version : Version) (front : List (List ℕ)) (line : List ℕ)
    → said_by version (front ++ line ∷ []) ≡ with_added (version_number version) (said_by version front) (line_of version Opening line)
said_by_more version front line =
    ap (λ start. record { version = version_number version; start = start; ops = (said_by version (front ++ line ∷ [])).ops })
    (filter_map-append (λ line. start_in (line_of version Opening line)) front (line ∷ []) ∙ ap (λ found. (said_by version front).start ++ found) (cons_option-nil _))
    ∙ ap (λ ops. record { version = version_number version; start = (said_by version front).start ++ option_to_list (start_in (line_of version Opening line)); ops = ops })
    (filter_map-append (λ line. operation_in (line_of version Opening line)) front (line ∷ []) ∙ ap (λ found. (said_by version front).ops ++ found) (cons_option-nil _))

-- while the head lasts, all lines are skipped
abbrev HasHead : List (List ℕ) → BulkValue → Type 0
HasHead front b = next_section b ≡ Head → list_all is_skipped front ≡ true

-- one line more behind lines that are read
module _ (front : List (List ℕ)) (line : List ℕ) (number : ℕ) (head : HasHead front (said front)) where
  -- the same version has the line, if it is skipped
  skipped_more : is_skipped line ≡ true → said (front ++ line ∷ []) ≡ with_read (said front) (line_behind (said front) line)
  skipped_more skipped =
      ap (λ version. said_by version (front ++ line ∷ [])) (version_skipped_more front line skipped)
      ∙ said_by_more (version_of front) front line
      ∙ ap (with_added (version_number (version_of front)) (said front)) (skipped_line _ Opening line skipped)
      ∙ with_nothing (said front)
      ∙ sym (ap (with_read (said front)) (skipped_line _ (next_section (said front)) line skipped))

  -- the line says the version
  version_more : is_skipped line ≡ false → says_version (next_section (said front)) line ≡ true
      → said (front ++ line ∷ []) ≡ with_read (said front) (line_behind (said front) line)
  version_more spoken told =
      let here = at_head (next_section (said front)) line told in
      let all = head here.0 in
      let at_the_head : says_version Head line ≡ true = ap (λ section. says_version section line) (sym here.0) ∙ told in
      let empty : BulkValue = record { version = 2; start = []; ops = [] } in
      let read : line_behind (said front) line ≡ Ok (Some says.Version) =
      ap (λ skips. unless_skipped skips (said_in (version_numbered (said front).version) (next_section (said front)) line)) spoken ∙ ap (unless_skipped false) (cond-true _ _ _ told) in
      ap (λ version. said_by version (front ++ line ∷ [])) (version_behind_skipped front (line ∷ []) all ∙ version_of_head line spoken at_the_head)
      ∙ said_by_more Two front line
      ∙ ap (λ b. with_added 2 b (line_of Two Opening line)) (said_by_skipped Two front all)
      ∙ ap (λ l. with_added 2 empty (line_of Two Opening l)) here.1
      ∙ sym (ap (λ b. with_line b says.Version) (said_by_skipped (version_of front) front all))
      ∙ sym (ap (with_read (said front)) read)

  -- where all lines so far are skipped, the head lasts
  section_of_skipped : list_all is_skipped front ≡ true → next_section (said front) ≡ Head
  section_of_skipped all =
      ap next_section (said_by_skipped (version_of front) front all)
      ∙ ap (λ version. section_behind (version_numbered (version_number version)) [] []) (version_of_skipped front all)

  -- a line that does not say the version leaves it
  version_stays : is_skipped line ≡ false → says_version (next_section (said front)) line ≡ false → version_of (front ++ line ∷ []) ≡ version_of front
  version_stays spoken other = ⊎_elim
      (λ all.
      let at_the_head : says_version Head line ≡ false = ap (λ section. says_version section line) (sym (section_of_skipped all)) ∙ other in
      version_behind_skipped front (line ∷ []) all ∙ version_of_other line spoken at_the_head ∙ sym (version_of_skipped front all))
      (λ some. version_behind_spoken front (line ∷ []) some)
      (cases_Bool (list_all is_skipped front))

  -- what the line says by its name
  read_by_name : is_skipped line ≡ false → says_version (next_section (said front)) line ≡ false
      → line_behind (said front) line ≡ unless_skipped false (by_name (version_of front) (next_section (said front)) line)
  read_by_name spoken other =
      ap (λ version. line_of version (next_section (said front)) line) (numbered (version_of front))
      ∙ line_by_name (version_of front) (next_section (said front)) line spoken other

  -- the line says a start key or an operation
  named_more : is_skipped line ≡ false → says_version (next_section (said front)) line ≡ false
      → fault_of number (said front) (line_behind (said front) line) ≡ None
      → said (front ++ line ∷ []) ≡ with_read (said front) (line_behind (said front) line)
  named_more spoken other none =
      let version = version_of front in
      let told = by_name version (next_section (said front)) line in
      let spoke = says_without_fault number (said front) told (sym (ap (fault_of number (said front)) (read_by_name spoken other)) ∙ none) in
      let opening : by_name version Opening line ≡ told = name_in_opening version (next_section (said front)) line (λ bad. let both = sym spoke.1 ∙ bad in cc) in
      ap (λ v. said_by v (front ++ line ∷ [])) (version_stays spoken other)
      ∙ said_by_more version front line
      ∙ ap (with_added (version_number version) (said front)) (line_by_name version Opening line spoken refl ∙ ap (unless_skipped false) opening)
      ∙ with_pieces (said front) told (no_version version _ _)
      ∙ sym (ap (with_read (said front)) (read_by_name spoken other))

  -- what the lines say, with this one
  said_more : fault_of number (said front) (line_behind (said front) line) ≡ None
      → said (front ++ line ∷ []) ≡ with_read (said front) (line_behind (said front) line)
  said_more none = ⊎_elim
      skipped_more
      (λ spoken. ⊎_elim (version_more spoken) (λ other. named_more spoken other none) (cases_Bool (says_version (next_section (said front)) line)))
      (cases_Bool (is_skipped line))

  -- behind this line too the head lasts only where all lines are skipped
  head_more : fault_of number (said front) (line_behind (said front) line) ≡ None
      → HasHead (front ++ line ∷ []) (with_read (said front) (line_behind (said front) line))
  head_more none is = ⊎_elim
      (λ skipped.
      let stays = ap (with_read (said front)) (skipped_line _ (next_section (said front)) line skipped) in
      let all = head (sym (ap next_section stays) ∙ is) in
      list_all-append is_skipped front (line ∷ []) ∙ ap (λ before. before && (is_skipped line && true)) all ∙ ap (λ skips. skips && true) skipped)
      (λ spoken.
      let told = said_in (version_numbered (said front).version) (next_section (said front)) line in
      let read : line_behind (said front) line ≡ unless_skipped false told = ap (λ skips. unless_skipped skips told) spoken in
      let spoke = says_without_fault number (said front) told (sym (ap (fault_of number (said front)) read) ∙ none) in
      let added = ap (with_read (said front)) (read ∙ ap (unless_skipped false) spoke.1) in
      absurd (past_head (said front) spoke.0 (sym (ap next_section added) ∙ is)))
      (cases_Bool (is_skipped line))

-- a first answer stays the first
pub first_stays : {X : Type 0} (f : ℕ → Option X) (x : X) (m n : ℕ) → m ≤ n → first f m ≡ Some x → first f n ≡ Some x
first_stays f x m zero le is =
    let none : 0 ≡ m = omega arith in
    ap (first f) none ∙ is
first_stays f x m (suc n) le is = ⊎_elim
    (λ same. ap (first f) (sym same) ∙ is)
    (λ other. ap (λ found. option_or found (f n)) (first_stays f x m n (omega arith) is))
    (cases_eq m (suc n))

-- one number more, where no answer came before it
pub first_more : {X : Type 0} (f : ℕ → Option X) (n : ℕ) → first f n ≡ None → first f (n + 1) ≡ f n
first_more f n none = ap (first f) (add-one n) ∙ ap (λ found. option_or found (f n)) none

-- the lines before the index have no fault and say this, and the rest comes after them
pub record IsReadTo (text rest : List (List ℕ)) (index : ℕ) (b : BulkValue) : Type 0 where
  pub in_text : index ≤ length text
  pub left : rest ≡ drop index text
  pub sound : first (fault_at text) index ≡ None
  pub spoken : b ≡ said (take index text)
  pub head : HasHead (take index text) b

-- the line at an index, and those after it
pub line_at : (line : List ℕ) (more text : List (List ℕ)) (i : ℕ) → line ∷ more ≡ drop i text → (i < length text) × (line ≡ get_or text i []) × (more ≡ drop (suc i) text)
line_at line more [] zero rest = cc
line_at line more [] (suc i) rest = cc
line_at line more (x ∷ text) zero rest = (omega arith, cc, cc)
line_at line more (x ∷ text) (suc i) rest = let inner = line_at line more text i rest in (omega arith, inner.1, inner.2)

-- the line at the index is next
module _ (text more : List (List ℕ)) (line : List ℕ) (index : ℕ) (b : BulkValue) (known : IsReadTo text (line ∷ more) index b) where
  -- what the line says behind what was read is what it says in the text
  line_here : line_behind b line ≡ line_in text index
  line_here =
      let here = line_at line more text index known.left in
      ap (λ before. line_behind before line) known.spoken ∙ ap (line_behind (said (take index text))) here.1

  -- the first fault up to this line is this line's
  first_here : first (fault_at text) (index + 1) ≡ fault_of (index + 1) b (line_behind b line)
  first_here =
      first_more (fault_at text) index known.sound
      ∙ ap (λ before. fault_of (index + 1) before (line_in text index)) (sym known.spoken)
      ∙ ap (fault_of (index + 1) b) (sym line_here)

  -- this line is read too, where it has no fault
  pub read_more : (next : ℕ) (new : BulkValue) → next ≡ index + 1 → fault_of (index + 1) b (line_behind b line) ≡ None
      → new ≡ with_read b (line_behind b line) → IsReadTo text more next new
  read_more next new step none spoken =
      let here = line_at line more text index known.left in
      let front = take index text in
      let with_this : take next text ≡ front ++ line ∷ [] =
      ap (λ n. take n text) step ∙ take_more text index [] here.0 ∙ ap (λ l. front ++ l ∷ []) (sym here.1) in
      let head : HasHead front (said front) = λ is. known.head (ap next_section known.spoken ∙ is) in
      let sound : fault_of (index + 1) (said front) (line_behind (said front) line) ≡ None =
      ap (λ before. fault_of (index + 1) before (line_behind before line)) (sym known.spoken) ∙ none in
      let read : new ≡ with_read (said front) (line_behind (said front) line) = spoken ∙ ap (λ before. with_read before (line_behind before line)) known.spoken in
      record {
        in_text = omega (arith, here.0);
        left = here.2 ∙ sym (ap (λ n. drop n text) (step ∙ add-one index));
        sound = ap (first (fault_at text)) step ∙ first_here ∙ none;
        spoken = read ∙ sym (ap said with_this ∙ said_more front line (index + 1) head sound);
        head = λ is. ap (list_all is_skipped) with_this ∙ head_more front line (index + 1) head sound (sym (ap next_section read) ∙ is);
      }

  -- a fault of this line is the text's
  pub read_fault : (fault : TextFault) → fault_of (index + 1) b (line_behind b line) ≡ Some fault
      → unless_fault (first (fault_at text) (length text)) (said text) ≡ Err fault
  read_fault fault found =
      let here = line_at line more text index known.left in
      ap (λ o. unless_fault o (said text)) (first_stays (fault_at text) fault (index + 1) (length text) (omega (arith, here.0)) (first_here ∙ found))

  -- memory may run out at this line
  pub read_stops : fault_of (index + 1) b (line_behind b line) ≡ None → IsSome (spoken_in (line_behind b line)) → HasSoundLine text
  read_stops none spoken =
      let here = line_at line more text index known.left in
      record {
        at = index;
        within = here.0;
        spoken = ap (λ found. is_some (spoken_in found)) (sym line_here) ∙ spoken;
        sound = first_here ∙ none;
      }

-- behind the last line what was read is what the text says
pub read_all_of : (text : List (List ℕ)) (index : ℕ) (b : BulkValue) → IsReadTo text [] index b
    → unless_fault (first (fault_at text) (length text)) (said text) ≡ Ok b
read_all_of text index b known =
    let at_end : length text ≡ index = omega (arith, known.in_text, ap length known.left, length-drop index text) in
    ap (λ n. unless_fault (first (fault_at text) n) (said text)) at_end ∙ ap (λ fault. unless_fault fault (said text)) known.sound
    ∙ ap Ok (sym (known.spoken ∙ ap said (take_all index text (omega (arith, at_end)))))
