-- What may keep a call of a directory from being made.
use Rattle.std.specs.Prelude.{◌+◌, Bool, true, false, ◌&&◌, ◌||◌, length, is_some, not, nat_lt}
use Rattle.peg_base.specs.Names.{Names, under, same_path}
use Rattle.dir_disk.specs.State.{Member, Gone, State}

-- a file at the path, so that none can be at the place above or under it
abbrev pub is_in_way : State → Names → Names → Bool
is_in_way state place path =
    is_some (state path).now && (not (same_path path place) && (under place path || under path place))

-- a file at or under the top
abbrev pub is_file_under : State → Names → Names → Bool
is_file_under state top path = under top path && is_some (state path).now

-- a file whose path would have more than 8 names after a move
abbrev pub is_too_deep : State → Names → Names → Names → Bool
is_too_deep state from to path =
    is_file_under state from path && nat_lt (8 + length from) (length to + length path)

abbrev pub is_gone : Member → Bool
is_gone Gone = true
is_gone member = false
