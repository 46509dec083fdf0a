-- Generated edges, one after another.
use Rattle.std.proofs.Common.{◌≡◌, ℕ, zero, suc, ◌+◌, ◌-◌, ◌*◌, ◌%◌, ◌<◌, List, [], ◌∷◌, refl, sym, ap, ◌∙◌, arith}
use Rattle.graph.specs.declared.edges.Edge.{Edge}
use Rattle.rand_pcg.specs.Lcg.{Lcg}
use Rattle.rand_pcg.specs.Pcg.{pcg32}
use Rattle.report.specs.Generated.{word, edge_at, edges_from}

pub edges_none : (g : Lcg) (nodes t : ℕ) → edges_from g nodes t 0 ≡ []
unfolding edges_from
edges_none g nodes t = refl

edges_more : (g : Lcg) (nodes t count : ℕ) → edges_from g nodes t (suc count) ≡ edge_at g nodes t ∷ edges_from g nodes (t + 1) count
unfolding edges_from
edges_more g nodes t count = refl

-- the generator after the words of one edge
abbrev pub after_edge : Lcg → Lcg
after_edge g = (pcg32 (pcg32 g).1).1

word_first : (g : Lcg) → word g 0 ≡ (pcg32 g).0
unfolding word
word_first g = refl

word_later : (g : Lcg) (k : ℕ) → word g (suc k) ≡ word (pcg32 g).1 k
unfolding word
word_later g k = refl

word_skip : (g : Lcg) (k j : ℕ) → k ≡ suc (suc j) → word g k ≡ word (after_edge g) j
word_skip g k j e = ap (word g) e ∙ word_later g (suc j) ∙ word_later (pcg32 g).1 j

edge_skip : (g : Lcg) (nodes t : ℕ) → edge_at g nodes (t + 1) ≡ edge_at (after_edge g) nodes t
edge_skip g nodes t =
    let source = word_skip g (2 * (t + 1)) (2 * t) (omega arith) in
    let target = word_skip g (2 * (t + 1) + 1) (2 * t + 1) (omega arith) in cc

edges_skip : (g : Lcg) (nodes t count : ℕ) → edges_from g nodes (t + 1) count ≡ edges_from (after_edge g) nodes t count
edges_skip g nodes t zero = edges_none g nodes (t + 1) ∙ sym (edges_none (after_edge g) nodes t)
edges_skip g nodes t (suc count) =
    let here = edge_skip g nodes t in
    let later = edges_skip g nodes (t + 1) count in
    let one = edges_more g nodes (t + 1) count in
    let other = edges_more (after_edge g) nodes t count in cc

abbrev pub drawn : ℕ → ℕ → ℕ → Edge
drawn first second nodes = record { source = first % nodes; target = second % nodes }

first_edge : (g : Lcg) (nodes first second : ℕ) → first ≡ (pcg32 g).0 → second ≡ (pcg32 (pcg32 g).1).0 → edge_at g nodes 0 ≡ drawn first second nodes
first_edge g nodes first second one two =
    let source = word_first g in
    let target = word_later g 0 ∙ word_first (pcg32 g).1 in cc

first_words : (g g1 g2 : Lcg) (first second : ℕ) → (first, g1) ≡ pcg32 g → (second, g2) ≡ pcg32 g1 → (first ≡ (pcg32 g).0) × (second ≡ (pcg32 (pcg32 g).1).0) × (g2 ≡ after_edge g)
first_words g g1 g2 first second one two =
    let state = ap (λ (p : ℕ × Lcg). p.1) one in (
      ap (λ (p : ℕ × Lcg). p.0) one,
      ap (λ (p : ℕ × Lcg). p.0) two ∙ ap (λ (s : Lcg). (pcg32 s).0) state,
      ap (λ (p : ℕ × Lcg). p.1) two ∙ ap (λ (s : Lcg). (pcg32 s).1) state,
    )

edges_next : (g : Lcg) (nodes count first second : ℕ) (g2 : Lcg) → first ≡ (pcg32 g).0 → second ≡ (pcg32 (pcg32 g).1).0 → g2 ≡ after_edge g → edges_from g nodes 0 (suc count) ≡ drawn first second nodes ∷ edges_from g2 nodes 0 count
edges_next g nodes count first second g2 one two state =
    let here = first_edge g nodes first second one two in
    let later = edges_skip g nodes 0 count in
    let moved = ap (λ (s : Lcg). edges_from s nodes 0 count) (sym state) in
    edges_more g nodes 0 count ∙ ap (λ (e : Edge). e ∷ edges_from g nodes 1 count) here ∙ ap (λ (es : List Edge). drawn first second nodes ∷ es) (later ∙ moved)

-- an edge that two words of the generator give, and those that are left
pub edges_drawn : (g g1 g2 : Lcg) (nodes count first second : ℕ) → 0 < count → (first, g1) ≡ pcg32 g → (second, g2) ≡ pcg32 g1 → edges_from g nodes 0 count ≡ drawn first second nodes ∷ edges_from g2 nodes 0 (count - 1)
edges_drawn g g1 g2 nodes count first second some one two =
    let words = first_words g g1 g2 first second one two in
    let is : count ≡ suc (count - 1) = omega arith in
    ap (edges_from g nodes 0) is ∙ edges_next g nodes (count - 1) first second g2 words.0 words.1 words.2
