-- The rules of the roles that go record by record over nodes.
use Rattle.std.specs.Prelude.{ℕ, ◌+◌, Bool, List, [], ◌∷◌, ◌++◌, Option, Some, None, option_map, length, fold, if◌then◌else◌}
use Rattle.std.specs.List.{flat_map}
use Rattle.graph.specs.declared.edges.Edge.{Edge}
use Rattle.gimv_core.specs.Algebras.{Algebra}
use Rattle.gimv_base.specs.Parts.{Part, nothing, written, refused, after}
use Rattle.gimv_base.specs.Rules.{Rule, ByRecord, ByGroup}
use Rattle.gimv_base.specs.Records.{edge_record_of, place_record_of, node_record_of, number_record_of, value_record_of, entry_record_of, message_record_of}
use Rattle.gimv_base.specs.Lines.{with_lf, number_line, entry_line, value_line, message_line}

-- Groups

-- what records say, up to the first bad one, which goes by its number from 1
pub record Reading (A : Type 0) : Type 0 where
  pub items : List A
  pub bad : Option ℕ

abbrev pub read_first : {A : Type 0} → Option A → Reading A → Reading A
read_first None later = record { items = []; bad = Some 1 }
read_first (Some x) later = record { items = x ∷ later.items; bad = option_map (λ k. 1 + k) later.bad }

abbrev pub read_all : {A : Type 0} → (List ℕ → Option A) → List (List ℕ) → Reading A
read_all kind [] = record { items = []; bad = None }
read_all kind (r ∷ rs) = read_first (kind r) (read_all kind rs)

-- a group whose first record is of another kind than the rest: the text of the first, and what the rest give then
abbrev pub head_part : {X : Type 0} → Option X → List ℕ → (X → List (List ℕ) → Part) → List (List ℕ) → Part
head_part None text rest rs = refused 1
head_part (Some x) text rest rs = after text 1 (rest x rs)

abbrev pub headed : {X : Type 0} → (List ℕ → Option X) → (List ℕ → List ℕ) → (X → List (List ℕ) → Part) → List (List ℕ) → Part
headed head text rest [] = nothing
headed head text rest (r ∷ rs) = head_part (head r) (text r) rest rs

-- nothing is certain where a record is bad
abbrev pub unless_bad : Option ℕ → List ℕ → Part
unless_bad None out = written out
unless_bad (Some k) out = refused k

abbrev pub no_text : List ℕ → List ℕ
no_text r = []

-- Rules by record

-- `id` copies each record
abbrev pub id_rule : Rule
id_rule = ByRecord (λ r. Some (with_lf r))

-- `entries one` and `entries both`: an edge's entry, by its column, and the entry of the edge turned round
abbrev pub edge_entries : Bool → Edge → List ℕ
edge_entries both e = entry_line e.target e.source 1 ++ (if both then entry_line e.source e.target 1 else [])

abbrev pub entries_rule : Bool → Rule
entries_rule both = ByRecord (λ r. option_map (edge_entries both) (edge_record_of r))

-- `first`: each place with the first value of the node there
abbrev pub first_rule : {Val Msg Weight : Type 0} → Algebra Val Msg Weight → ℕ → Rule
first_rule a n = ByRecord (λ r. option_map (λ place. value_line a place.0 1 (a.algorithm.first place.1)) (node_record_of n r))

-- `number`: each node with the number of its value
abbrev pub number_rule : {Val Msg Weight : Type 0} → Algebra Val Msg Weight → ℕ → Rule
number_rule a n = ByRecord (λ r. option_map (λ node. number_line node.0 (a.algorithm.number node.1)) (value_record_of a n r))

-- Rules by group

-- `degrees`: each edge's entry, turned round, with the number of edges in the group
abbrev pub degree_lines : List Edge → List ℕ
degree_lines edges = flat_map (λ (e : Edge). entry_line e.source e.target (length edges)) edges

-- the same where these edges of the group came before
abbrev pub degree_part : List Edge → List (List ℕ) → Part
degree_part edges rs = let read = read_all edge_record_of rs in unless_bad read.bad (degree_lines (edges ++ read.items))

abbrev pub degrees_rule : Rule
degrees_rule = ByGroup (degree_part [])

-- `stage1`: what a node's value passes on along the entries of its column, after the value itself
abbrev pub passed_line : {Val Msg Weight : Type 0} → Algebra Val Msg Weight → Val → (ℕ × Weight) → List ℕ
passed_line a v entry = message_line a entry.0 (a.algorithm.combine2 entry.1 v)

abbrev pub passed_part : {Val Msg Weight : Type 0} → Algebra Val Msg Weight → ℕ → Val → List (List ℕ) → Part
passed_part a n v rs =
    let read = read_all (entry_record_of a n) rs in record { out = flat_map (passed_line a v) read.items; bad = read.bad }

abbrev pub stage1_rule : {Val Msg Weight : Type 0} → Algebra Val Msg Weight → ℕ → Rule
stage1_rule a n = ByGroup (headed (value_record_of a n) with_lf (λ node. passed_part a n node.1))

-- `stage2`: a node's new value, from all messages to it, and whether it isn't the same as the old one
abbrev pub new_value_line : {Val Msg Weight : Type 0} → Algebra Val Msg Weight → (ℕ × Val) → Val → List ℕ
new_value_line a node v = value_line a node.0 (if a.algorithm.same v node.1 then 0 else 1) v

-- the same where these messages came before, put together
abbrev pub assigned_part : {Val Msg Weight : Type 0} → Algebra Val Msg Weight → (ℕ × Val) → Msg → List (List ℕ) → Part
assigned_part a node all rs =
    let read = read_all (message_record_of a) rs in
    unless_bad read.bad (new_value_line a node (a.algorithm.assign node.1 (fold a.algorithm.combine all read.items)))

abbrev pub stage2_rule : {Val Msg Weight : Type 0} → Algebra Val Msg Weight → ℕ → Rule
stage2_rule a n = ByGroup (headed (value_record_of a n) no_text (λ node. assigned_part a node a.algorithm.unit))

-- `place`: the id at a place, with the place's number; a group needs its second record, and has no third
abbrev pub settled_part : List (List ℕ) → Part
settled_part [] = nothing
settled_part (r ∷ rs) = refused 1

abbrev pub numbered_part : ℕ → Option ℕ → List (List ℕ) → Part
numbered_part i None rs = refused 1
numbered_part i (Some number) rs = after (number_line i number) 1 (settled_part rs)

abbrev pub placed_part : ℕ → List (List ℕ) → Part
placed_part i [] = refused 0
placed_part i (r ∷ rs) = numbered_part i (number_record_of r) rs

abbrev pub place_rule : Rule
place_rule = ByGroup (headed place_record_of no_text (λ place. placed_part place.1))
