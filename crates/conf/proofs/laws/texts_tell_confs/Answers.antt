use Rattle.conf.proofs.TextLemmas.{texts_tell_confs}
use Rattle.conf.proofs.laws.texts_tell_confs.Goals as goal

pub returns : goal.returns
returns c = texts_tell_confs c.decimals_read_back.ensures c.lines_read_back.ensures
