-- Event by event: a child word changes where a card wins its child exchange, which it does once.
use Rattle.ell_grace.proofs.lemmas.tags.Coming.{every_state_has_tags, tags_begin, tags_lead_on, tags_rise_by_cards, tags_lag_little}
use Rattle.ell_grace.proofs.laws.tags_rise_by_cards.Goals as goal

pub returns : goal.returns
returns c = record {
  tags = every_state_has_tags;
  begins = tags_begin;
  events = tags_lead_on;
  runs = tags_rise_by_cards;
  lags = tags_lag_little;
}
