-- Walks can be joined and gone back, and a node has one least label.
use Rattle.std.proofs.Common.{◌≡◌, ℕ, ◌<◌, ◌≤◌, List, [], ◌∷◌, get_or, Contains, refl, sym, subst, ◌∙◌, inl, inr, arith}
use Rattle.std.proofs.lemmas.Grind.{same_number_lists}
use Rattle.std.proofs.lemmas.List.Elements.{All-contains}
use Rattle.graph.specs.declared.edges.Edge.{Edge}
use Rattle.graph.specs.Edges.{AreBelow}
use Rattle.graph.specs.Walks.{Joins, AreJoined, IsWalk, Reaches, IsLeast, AreLeast}

pub reaches_itself : (edges : List Edge) (i : ℕ) → Reaches edges i i
reaches_itself edges i = record { over = []; walk = refl }

-- one step more at the front of a walk
pub reaches_over : {edges : List Edge} {i k j : ℕ} → AreJoined edges i k → Reaches edges k j → Reaches edges i j
reaches_over {edges} {i} {k} {j} joined on = record { over = k ∷ on.over; walk = (joined, on.walk) }

reaches_by : (edges : List Edge) (i : ℕ) (ks : List ℕ) (j l : ℕ) → IsWalk edges i ks j → Reaches edges j l → Reaches edges i l
reaches_by edges i [] j l walk on = subst (λ x. Reaches edges x l) (sym walk) on
reaches_by edges i (k ∷ ks) j l walk on = reaches_over walk.0 (reaches_by edges k ks j l walk.1 on)

pub Reaches-trans : {edges : List Edge} {i j l : ℕ} → Reaches edges i j → Reaches edges j l → Reaches edges i l
Reaches-trans {edges} {i} {j} {l} to on = reaches_by edges i to.over j l to.walk on

joins_back : (e : Edge) (i j : ℕ) → Joins e i j → Joins e j i
joins_back e i j (inl there) = inr (there.0, there.1)
joins_back e i j (inr back) = inl (back.0, back.1)

pub AreJoined-sym : {edges : List Edge} {i j : ℕ} → AreJoined edges i j → AreJoined edges j i
AreJoined-sym {edges} {i} {j} joined = record { edge = joined.edge; listed = joined.listed; joins = joins_back joined.edge i j joined.joins }

back_by : (edges : List Edge) (i : ℕ) (ks : List ℕ) (j : ℕ) → IsWalk edges i ks j → Reaches edges j i
back_by edges i [] j walk = subst (λ x. Reaches edges x i) walk (reaches_itself edges i)
back_by edges i (k ∷ ks) j walk = Reaches-trans (back_by edges k ks j walk.1) (reaches_over (AreJoined-sym walk.0) (reaches_itself edges i))

pub Reaches-sym : {edges : List Edge} {i j : ℕ} → Reaches edges i j → Reaches edges j i
Reaches-sym {edges} {i} {j} to = back_by edges i to.over j to.walk

-- an edge joins its nodes
pub AreJoined-from_edge : (edges : List Edge) (e : Edge) → Contains edges e → AreJoined edges e.source e.target
AreJoined-from_edge edges e listed = record { edge = e; listed = listed; joins = inl (refl, refl) }

-- edges among as many nodes
pub AreBelow-same : (n n' : ℕ) (edges : List Edge) → n ≡ n' → AreBelow n' edges → AreBelow n edges
AreBelow-same n n' edges same below = subst (λ k. AreBelow k edges) (sym same) below

joins_below : (n : ℕ) (e : Edge) (i j : ℕ) → (e.source < n) × (e.target < n) → Joins e i j → j < n
joins_below n e i j below (inl there) = subst (λ x. x < n) there.1 below.1
joins_below n e i j below (inr back) = subst (λ x. x < n) back.0 below.0

-- what is joined is among the nodes
pub joined-lt : (n : ℕ) (edges : List Edge) (i j : ℕ) → AreBelow n edges → AreJoined edges i j → j < n
joined-lt n edges i j below joined =
    joins_below n joined.edge i j (All-contains (λ (e : Edge). (e.source < n) × (e.target < n)) edges joined.edge below joined.listed) joined.joins

pub IsLeast-unique : (edges : List Edge) (i m m' : ℕ) → IsLeast edges i m → IsLeast edges i m' → m ≡ m'
IsLeast-unique edges i m m' least other =
    let le : m ≤ m' = least.least m' other.reached in
    let ge : m' ≤ m = other.least m least.reached in
    omega arith

-- nodes that are joined by a walk have the same least label
pub IsLeast-along : (edges : List Edge) (i j m : ℕ) → Reaches edges i j → IsLeast edges j m → IsLeast edges i m
IsLeast-along edges i j m to least = record {
  reached = Reaches-trans to least.reached;
  least = λ l on. least.least l (Reaches-trans (Reaches-sym to) on);
}

pub AreLeast-unique : (n : ℕ) (edges : List Edge) (labels others : List ℕ) → AreLeast n edges labels → AreLeast n edges others → labels ≡ others
AreLeast-unique n edges labels others least other =
    same_number_lists labels others (least.each_node ∙ sym other.each_node)
    (λ k lt. let lt' : k < n = subst (λ x. k < x) least.each_node lt in
    IsLeast-unique edges k (get_or labels k 0) (get_or others k 0) (least.least k lt') (other.least k lt'))
