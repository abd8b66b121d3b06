-- The column is the word turned.
use Rattle.block.proofs.GridLoop.{column-turned}
use Rattle.block.proofs.column_of_word.Goals as goal

pub returns : goal.returns
returns c = column-turned c.args.n c.args.j c.args.word c.around.ensures.0 c.turned_up.ensures
