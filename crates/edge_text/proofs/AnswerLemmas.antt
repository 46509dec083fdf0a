-- Facts for each answer but want of memory.
use Rattle.std.proofs.Common.{◌≡◌, ℕ, refl}
use Rattle.edge_text.specs.declared.fault.EdgeFault.{EdgeFault}
use Rattle.edge_text.specs.declared.fault.EdgeFault.TheVariants.{BadEdge, BigNode, TooLarge, NoMemory}
use Rattle.edge_text.specs.Answers.{UnlessOutOfMemory, WhereOutOfMemory}

pub unless_from : {P : Type 0} (fault : EdgeFault) → P → UnlessOutOfMemory fault P
unless_from (BadEdge line) p = p
unless_from (BigNode line id) p = p
unless_from TooLarge p = p
unless_from NoMemory p = tt

pub unless_weaker : {P Q : Type 0} (fault : EdgeFault) → (P → Q) → UnlessOutOfMemory fault P → UnlessOutOfMemory fault Q
unless_weaker (BadEdge line) f p = f p
unless_weaker (BigNode line id) f p = f p
unless_weaker TooLarge f p = f p
unless_weaker NoMemory f p = tt

pub unless_both : {P Q R : Type 0} (fault : EdgeFault) → (P → Q → R) → UnlessOutOfMemory fault P → UnlessOutOfMemory fault Q → UnlessOutOfMemory fault R
unless_both (BadEdge line) f p q = f p q
unless_both (BigNode line id) f p q = f p q
unless_both TooLarge f p q = f p q
unless_both NoMemory f p q = tt

pub where_weaker : {P Q : Type 0} (fault : EdgeFault) → (P → Q) → WhereOutOfMemory fault P → WhereOutOfMemory fault Q
where_weaker (BadEdge line) f p = tt
where_weaker (BigNode line id) f p = tt
where_weaker TooLarge f p = tt
where_weaker NoMemory f p = f p

-- a fact that follows from the fault alone
pub where_from : {P : Type 0} (fault : EdgeFault) → P → WhereOutOfMemory fault P
where_from (BadEdge line) p = tt
where_from (BigNode line id) p = tt
where_from TooLarge p = tt
where_from NoMemory p = p

pub where_is : {P : Type 0} (fault : EdgeFault) → (fault ≡ NoMemory → P) → WhereOutOfMemory fault P
where_is (BadEdge line) f = tt
where_is (BigNode line id) f = tt
where_is TooLarge f = tt
where_is NoMemory f = f refl

bad_edge_is : (line : ℕ) → BadEdge line ≡ NoMemory → ⊥
bad_edge_is line is = cc

big_node_is : (line id : ℕ) → BigNode line id ≡ NoMemory → ⊥
big_node_is line id is = cc

too_large_is : TooLarge ≡ NoMemory → ⊥
too_large_is is = cc

-- where nothing but memory was missing
pub unless_memory : (P : Type 0) (fault : EdgeFault) → fault ≡ NoMemory → UnlessOutOfMemory fault P
unless_memory P (BadEdge line) is = absurd (bad_edge_is line is)
unless_memory P (BigNode line id) is = absurd (big_node_is line id is)
unless_memory P TooLarge is = absurd (too_large_is is)
unless_memory P NoMemory is = tt
