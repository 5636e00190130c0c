use Rattle.std.proofs.Common.{◌≡◌, ℕ, ◌<◌, List, Option, None, Some, Ok, length, take, ap, sym, ◌∙◌}
use Rattle.std.specs.Prelude.{IfSome}
use Rattle.std.specs.Io.KnownBytes.{Appends}
use Rattle.ell_ops.specs.Contents.{ListsPairs, contents_of}
use Rattle.ell_ops.specs.Meaning.{replies, final}
use Rattle.ell_text.specs.declared.output.WriteFault.{WriteFault}
use Rattle.ell_text.specs.Bulk.{BulkValue, bulk}
use Rattle.ell_text.specs.Answer.{answer}
use Rattle.ell_run.specs.declared.settings.Settings.{Settings}
use Rattle.ell_run.specs.Answered.{IsAnswer, IsAnswered, IsLateOf, IsReported, FaultTells}
use Rattle.ell_run.specs.RunFault.{of_write}
use Rattle.ell_ops.specs.declared.reply.Reply.{Reply}

module _ (read : List ℕ) (given : BulkValue) (meant : bulk read ≡ Ok given) where
  -- replies and pairs of one thread are the answer
  is_answer : (bytes : List ℕ) (said : List Reply) (pairs : List (ℕ × ℕ)) → read ≡ bytes → said ≡ replies (contents_of given.start) given.ops →
      ListsPairs (final (contents_of given.start) given.ops) pairs → IsAnswer bytes (answer given.version said pairs)
  is_answer bytes said pairs whole told listed =
      record { given = given; pairs = pairs; read = ap bulk (sym whole) ∙ meant; listed = listed; written = ap (λ said. answer given.version said pairs) told }

  -- the whole answer went out
  pub answered : (input before after : Option (List ℕ)) (said : List Reply) (pairs : List (ℕ × ℕ)) → IfSome input (λ bytes. read ≡ bytes) →
      said ≡ replies (contents_of given.start) given.ops → ListsPairs (final (contents_of given.start) given.ops) pairs → Appends before after (answer given.version said pairs) →
      IsAnswered input before after
  answered None before after said pairs whole told listed out = tt
  answered (Some bytes) before after said pairs whole told listed out = (answer given.version said pairs, is_answer bytes said pairs whole told listed, out)

  -- its write was cut short
  pub cut_short : (input before after : Option (List ℕ)) (said : List Reply) (pairs : List (ℕ × ℕ)) (fault : WriteFault) → IfSome input (λ bytes. read ≡ bytes) →
      said ≡ replies (contents_of given.start) given.ops → ListsPairs (final (contents_of given.start) given.ops) pairs →
      fault.written < length (answer given.version said pairs) → Appends before after (take fault.written (answer given.version said pairs)) →
      FaultTells (of_write fault) input before after
  cut_short None before after said pairs fault whole told listed missing out = tt
  cut_short (Some bytes) before after said pairs fault whole told listed missing out =
      (answer given.version said pairs, is_answer bytes said pairs whole told listed, missing, out)

  -- how many operations are late
  pub reported : (settings : Settings) (input : Option (List ℕ)) (count : ℕ) → IfSome input (λ bytes. read ≡ bytes) →
      IsLateOf settings (contents_of given.start) given.ops count → IsReported settings input count
  reported settings None count whole late = tt
  reported settings (Some bytes) count whole late = (given, ap bulk (sym whole) ∙ meant, late)
