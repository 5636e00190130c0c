use Rattle.std.proofs.Common.{◌≡◌, ◌<◌, Some, sym, subst, ◌∙◌, ap}
use Rattle.ell_word.specs.Link.{IsLink, linked, tag_unit}
use Rattle.ell_word.specs.Word.{packed}
use Rattle.ell_layout.specs.declared.field.Field.TheVariants as field
use Rattle.ell_cards.specs.Apart.{NamesLowBits}
use Rattle.ell_runs.specs.declared.view.View.{View}
use Rattle.ell_tree.specs.declared.searching.Passed.{Passed}
use Rattle.ell_tree.specs.declared.searching.Place.{Place}
use Rattle.ell_tree.specs.Searches.{seen, seen_any}
use Rattle.ell_tree.proofs.lemmas.Links.{parent_low, place_link}
use Rattle.ell_tree.proofs.lemmas.Storing.{low_node, stores_none, stores_more, fills_delete, whole_delete}
use Rattle.ell_tree.proofs.deleting.fill_delete.Goals as goal

-- the grandparent that its search passed
above_low : (place : Place) (above : Passed) (v : View) → place.grandparent ≡ Some above → v.worker.search.grandparent ≡ seen_any place.grandparent → NamesLowBits v
    → above.node < tag_unit
above_low place above v is there short = short.grandparent (seen above) (there ∙ ap seen_any is)

pub word-leaf-requires : goal.word-leaf-requires
word-leaf-requires g c =
    subst IsLink (sym c.node_with.ensures) (place_link c.args.place c.args.above.tag c.args.pass.now.view c.requires.card.1.stands c.requires.tag c.facts_stay_inside.ensures.short)

pub fill-requires-clause-fits : goal.fill-requires-clause-fits
fill-requires-clause-fits g c =
    low_node c.args.above.node (above_low c.args.place c.args.above c.args.pass.now.view c.requires.above c.requires.card.1.above c.facts_stay_inside.ensures.short)

pub returns : goal.returns
returns g c =
    let a = c.args.pass.now in
    let place = c.args.place in
    let above = c.args.above in
    let word = c.word-leaf.result in
    let was = c.pack-was.result in
    let card = c.requires.card.1 in
    let short = c.facts_stay_inside.ensures.short in
    let s1 = stores_more a a c.fill.new.pass _ 0 field.Gp above.node (stores_none a card.empty) c.fill.ensures.step in
    let s2 = stores_more a c.fill.new.pass c.fill-2.new.pass _ 1 field.P place.parent.node s1 c.fill-2.ensures.step in
    let s3 = stores_more a c.fill-2.new.pass c.fill-3.new.pass _ 2 field.L word s2 c.fill-3.ensures.step in
    let s4 = stores_more a c.fill-3.new.pass c.fill-4.new.pass _ 3 field.Was was s3 c.fill-4.ensures.step in
    record {
      fills = fills_delete a c.fill-4.new.pass above.node place.parent.node word was s4 place.node above.tag
          (packed place.parent.update) (above_low place above a.view c.requires.above card.above short) (parent_low place a.view card.behind short)
          (place_link place above.tag a.view card.stands c.requires.tag short) card.says
          (c.word-leaf.ensures ∙ ap linked c.node_with.ensures) c.pack-was.ensures;
      whole = λ some. whole_delete a c.fill-4.new.pass above.node place.parent.node word was s4 c.args.card (c.requires.slot some);
    }
