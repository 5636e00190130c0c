use Rattle.std.proofs.Common.{◌≡◌, ℕ, ◌+◌, ◌≤◌, true, List, [], ◌∷◌, ◌++◌, length, Option, None, Some, Result, Ok, Err, nat_lt, refl, sym, ap, ap₂, ◌∙◌, arith, append_assoc, length-append}
use Rattle.std.proofs.lemmas.Bool.{cond-true, lt-ltb}
use Rattle.std.proofs.lemmas.List.{append-nil, length_push}
use Rattle.ell_ops.specs.declared.op.Op.{Op}
use Rattle.ell_text.specs.declared.line.Line.{Line}
use Rattle.ell_text.specs.declared.line.Line.TheVariants as says
use Rattle.ell_text.specs.declared.line.LineFault.{LineFault}
use Rattle.ell_text.specs.declared.line.Section.{Section}
use Rattle.ell_text.specs.declared.line.Section.TheVariants.{Operations}
use Rattle.ell_text.specs.declared.version.Version.{Version}
use Rattle.ell_text.specs.Bulk.{BulkValue, fault_at, fault_of, first, line_behind, next_section, said, section_behind, unless_fault, with_read}
use Rattle.ell_text.specs.Limits.{most_operations}
use Rattle.ell_text.specs.Line.{line_of}
use Rattle.ell_text.specs.Operations.{Follow, IsReadOn, ReadAsOperation, SayOperations, nothing, skipped, operation}
use Rattle.ell_text.specs.Version.{version_numbered}
use Rattle.ell_text.proofs.lemmas.Operations.{IsReadTo, read_all_of, read_more}

-- a line that is read in the version and in the section where it stands is read behind what was said before it
pub read_here : (b : BulkValue) (version : Version) (section : Section) (line : List ℕ) (read : Result (Option Line) LineFault)
    → version ≡ version_numbered b.version → section ≡ next_section b → line_of version section line ≡ read → line_behind b line ≡ read
read_here b version section line read of here is = ap₂ (λ v s. line_of v s line) (sym of) (sym here) ∙ is

-- lines and others behind them say the operations of both
say_both : (version : Version) {front back : List (List ℕ)} {some more : List Op} → SayOperations version front some → SayOperations version back more
    → SayOperations version (front ++ back) (some ++ more)
say_both version nothing also = also
say_both version (skipped is say) also = skipped is (say_both version say also)
say_both version (operation is say) also = operation is (say_both version say also)

-- so do they behind operations
pub follow_both : (version : Version) (before : List Op) (front back : List (List ℕ)) (some more : List Op)
    → Follow version before front some → Follow version [] back more → Follow version before (front ++ back) (some ++ more)
follow_both version before front back some more here there = record {
  said = here.said ++ there.said;
  say = say_both version here.say there.say;
  behind = ap (λ ops. ops ++ more) here.behind ∙ append_assoc before here.said more ∙ ap (λ ops. before ++ (here.said ++ ops)) there.behind;
}

-- the lines after a line say operations, which follow those up to it; so with the line they follow those before it
pub follow_more : (version : Version) (old new : List Op) (line : List ℕ) (more : List (List ℕ)) (later : List Op)
    → ReadAsOperation (line_of version Operations line) old new → SayOperations version more later
    → (said : List Op) × SayOperations version (line ∷ more) said × (new ++ later ≡ old ++ said)
follow_more version old new line more later read say = helped (line_of version Operations line) refl read where
  helped : (r : Result (Option Line) LineFault) → line_of version Operations line ≡ r → ReadAsOperation r old new
      → (said : List Op) × SayOperations version (line ∷ more) said × (new ++ later ≡ old ++ said)
  helped (Ok None) is same = (later, skipped is say, ap (λ ops. ops ++ later) same)
  helped (Ok (Some (says.Operation op))) is more = (op ∷ later, operation is say, ap (λ ops. ops ++ later) more ∙ append_assoc old (op ∷ []) later)
  helped (Ok (Some says.Version)) is other = absurd other
  helped (Ok (Some (says.Start key value))) is other = absurd other
  helped (Err fault) is other = absurd other

-- behind an operation the section of operations goes on
behind_operation : (version : Version) (start : List (ℕ × ℕ)) (ops : List Op) (op : Op) → section_behind version start (ops ++ op ∷ []) ≡ Operations
behind_operation version start [] op = refl
behind_operation version start (first ∷ ops) op = refl

-- a text is read to its end where the rest of it says operations alone, and not too many
read_say : (text : List (List ℕ)) (version : Version) {rest : List (List ℕ)} {ops : List Op} → SayOperations version rest ops
    → (index : ℕ) (b : BulkValue) → version ≡ version_numbered b.version → IsReadTo text rest index b → next_section b ≡ Operations
    → length b.start + length b.ops + length ops ≤ most_operations
    → unless_fault (first (fault_at text) (length text)) (said text) ≡ Ok (record b { ops = b.ops ++ ops })
read_say text version nothing index b of known section within =
    read_all_of text index b known ∙ ap (λ ops. Ok (record { version = b.version; start = b.start; ops = ops })) (sym (append-nil b.ops))
read_say text version (skipped {line = line} {more = more} is say) index b of known section within =
    let read : line_behind b line ≡ Ok None = ap₂ (λ v s. line_of v s line) (sym of) section ∙ is in
    read_say text version say (index + 1) b of
    (read_more text more line index b known (index + 1) b refl (ap (fault_of (index + 1) b) read) (sym (ap (with_read b) read))) section within
read_say text version (operation {line = line} {more = more} {first = op} {ops = ops} is say) index b of known section within =
    let read : line_behind b line ≡ Ok (Some (says.Operation op)) = ap₂ (λ v s. line_of v s line) (sym of) section ∙ is in
    let next : BulkValue = record b { ops = b.ops ++ op ∷ [] } in
    let room : nat_lt (length b.start + length b.ops) most_operations ≡ true = lt-ltb _ _ (omega (arith, within)) in
    read_say text version say (index + 1) next of
    (read_more text more line index b known (index + 1) next refl (ap (fault_of (index + 1) b) read ∙ cond-true _ _ _ room) (sym (ap (with_read b) read)))
    (behind_operation (version_numbered b.version) b.start b.ops op) (omega (arith, within, length_push b.ops op))
    ∙ ap (λ all. Ok (record { version = b.version; start = b.start; ops = all })) (append_assoc b.ops (op ∷ []) ops)

-- and so what is read on is what the text says
pub read_on : (text rest : List (List ℕ)) (index : ℕ) (b after : BulkValue) → IsReadTo text rest index b → next_section b ≡ Operations → IsReadOn b rest after
    → unless_fault (first (fault_at text) (length text)) (said text) ≡ Ok after
read_on text rest index b after known section on =
    let follow = on.follow in
    let same : after ≡ record b { ops = b.ops ++ follow.said } = on.same ∙ ap (λ ops. record { version = b.version; start = b.start; ops = ops }) follow.behind in
    read_say text (version_numbered b.version) follow.say index b refl known section
    (omega (arith, on.within, ap (λ v. length v.start) same, ap (λ v. length v.ops) same, ap length follow.behind, length-append b.ops follow.said))
    ∙ ap Ok (sym same)
