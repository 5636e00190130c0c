-- So far all bytes are digits, and the number is their value.
use Rattle.std.proofs.Common.{length, take, true, ◌-◌, ◌≡◌, ◌≤◌}
use Rattle.std.specs.Char.{is_ascii_digit}
use Rattle.std.specs.List.{list_all}
use Rattle.std.specs.Str.Parse.{digits_value}
use Rattle.ell_text.proofs.number.digits_in_front.Given as goal

abbrev pub invariant-digits : goal.invariant-digits
invariant-digits l = record {
  within : l.len ≤ length l.bytes;
  digits : list_all is_ascii_digit (take l.len l.bytes) ≡ true;
  value : l.number ≡ digits_value 10 (take l.len l.bytes);
}

abbrev pub decreases-digits : goal.decreases-digits
decreases-digits l = length l.bytes - l.len
