use Rattle.std.proofs.Common.{◌≡◌, take}
use Rattle.std.specs.List.{flat_map}
use Rattle.mining.specs.Table.{inputs_of, part_count, part_paths}
use Rattle.mining.proofs.paths.input_paths.Given as goal

abbrev pub invariant-loop-input : goal.invariant-loop-input
invariant-loop-input l =
    l.paths.items ≡ flat_map (λ input. part_paths input (part_count l.fn.conf input)) (take l.input-index (inputs_of l.fn.conf.form l.fn.last l.fn.place))
