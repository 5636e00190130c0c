-- The places of a card's fields are less than ten, and each field has its own.
use Rattle.ell_layout.proofs.lemmas.Listed.{address_in_table, addresses_apart}
use Rattle.ell_layout.proofs.laws.each_word_has_its_address.Goals as goal

pub returns : goal.returns
returns c = record { inside = address_in_table; apart = addresses_apart }
