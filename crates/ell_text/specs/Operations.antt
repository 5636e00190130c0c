use Rattle.std.specs.Prelude.{ℕ, ◌≡◌, ◌≤◌, ◌+◌, ◌++◌, ◌∷◌, List, [], length, Option, None, Some, Result, Ok}
use Rattle.ell_ops.specs.declared.op.Op.{Op}
use Rattle.ell_text.specs.declared.line.Line.{Line}
use Rattle.ell_text.specs.declared.line.Line.TheVariants as says
use Rattle.ell_text.specs.declared.line.LineFault.{LineFault}
use Rattle.ell_text.specs.declared.line.Section.TheVariants.{Operations}
use Rattle.ell_text.specs.declared.version.Version.{Version}
use Rattle.ell_text.specs.Bulk.{BulkValue}
use Rattle.ell_text.specs.Limits.{most_operations}
use Rattle.ell_text.specs.Line.{line_of}
use Rattle.ell_text.specs.Version.{version_numbered}

-- a line that is read so leaves operations as they are, or appends the one that it says
abbrev pub ReadAsOperation : Result (Option Line) LineFault → List Op → List Op → Type 0
ReadAsOperation (Ok None) old new = new ≡ old
ReadAsOperation (Ok (Some (says.Operation operation))) old new = new ≡ old ++ operation ∷ []
ReadAsOperation other old new = ⊥

-- some lines that stand behind an operation say these operations, and nothing else
pub data SayOperations (version : Version) : List (List ℕ) → List Op → Type 0 where
  nothing : SayOperations version [] []
  skipped : {line : List ℕ} {more : List (List ℕ)} {ops : List Op} → line_of version Operations line ≡ Ok None
      → SayOperations version more ops → SayOperations version (line ∷ more) ops
  operation : {line : List ℕ} {more : List (List ℕ)} {first : Op} {ops : List Op}
      → line_of version Operations line ≡ Ok (Some (says.Operation first))
      → SayOperations version more ops → SayOperations version (line ∷ more) (first ∷ ops)

-- operations, and behind them those that some lines say
pub record Follow (version : Version) (before : List Op) (text : List (List ℕ)) (ops : List Op) : Type 0 where
  pub said : List Op
  pub say : SayOperations version text said
  pub behind : ops ≡ before ++ said

-- what was said before, and the operations that the rest of a text says, all of them no more than a text may have
pub record IsReadOn (before : BulkValue) (rest : List (List ℕ)) (after : BulkValue) : Type 0 where
  pub follow : Follow (version_numbered before.version) before.ops rest after.ops
  pub same : after ≡ record before { ops = after.ops }
  pub within : length after.start + length after.ops ≤ most_operations
