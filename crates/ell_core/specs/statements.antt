-- Laws of the definitions.
pub mod Laws
-- What each event does to the map that the tree is, to the answers, the ledgers and the knowledge.
pub mod Effects
-- That each event does so, and what a step may rely on.
pub mod StepLaws
-- Laws of every schedule, from the opening state on: any list of events, by any workers in any order, refused ones too.
pub mod RunLaws
-- What an opening with start keys has.
pub mod Start
-- Which cards wait for their flag, and what an event does to them.
pub mod Waiting
-- Which nodes the walks for keys come by, and what an event does to them.
pub mod Walks
-- What was told of a card stays so in later words.
pub mod Told
-- The premises of the laws are met: states of a run, their followers, splits, joins and owners of all keys are there.
pub mod Premises
-- What is not so: statements near to the laws, which a small run shows to be false.
pub mod Refuted
-- What a search has seen since it began.
pub mod Since
-- A reader of any key, who only loads, finds what was so in one state of the run meanwhile.
pub mod Looks
-- A reader, who may keep nodes and go on from them, finds how all keys of a stretch were in one state.
pub mod Readers
-- Flat trees are shallow.
pub mod Flat
