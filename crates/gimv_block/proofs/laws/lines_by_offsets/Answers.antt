use Rattle.gimv_block.proofs.BlockLemmas.{lines_by_offsets}
use Rattle.gimv_block.proofs.laws.lines_by_offsets.Goals as goal

pub returns : goal.returns
returns g c = λ a len row_block column_block line v i some small. lines_by_offsets a len row_block column_block v i some line small
