use Rattle.json_patch.proofs.KeyStarts.{found_from, not_found_from}
use Rattle.json_patch.proofs.key_index.KeyIndex.find_key.Goals as goal

pub returns-in-Some-clause-first : goal.returns-in-Some-clause-first
returns-in-Some-clause-first c = found_from c.args.self.now.starts.items c.args.key.now c.args.self.now.removed c.start_of-start.result c.args.pairs.now c.requires c.start_of-start.ensures.start c.in-Some.i c.in-Some.ensures.first

pub returns-in-None-clause-none : goal.returns-in-None-clause-none
returns-in-None-clause-none c = not_found_from c.args.self.now.starts.items c.args.key.now c.args.self.now.removed c.start_of-start.result c.args.pairs.now c.requires c.start_of-start.ensures.start c.in-None.ensures.none
