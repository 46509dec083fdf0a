-- The folders of a form with blocks as jobs over the folders before them.
use Rattle.std.proofs.Common.{◌≡◌, refl, ap, ◌∙◌, false, ℕ, suc, List, [], ◌∷◌, ◌++◌, codes, decimal}
use Rattle.std.specs.Prelude.{unwrap_or}
use Rattle.std.specs.List.{flat_map}
use Rattle.std.proofs.lemmas.List.{append-nil}
use Rattle.graph.specs.declared.edges.Edge.{Edge}
use Rattle.edge_text.specs.Edges.{text_of}
use Rattle.conf.specs.declared.commands.Form.{Form}
use Rattle.conf.specs.declared.commands.Form.TheVariants.{Block, Diagonal}
use Rattle.conf.specs.declared.reading.Conf.{Conf}
use Rattle.mining.specs.declared.place.Place.{Place}
use Rattle.mining.specs.declared.place.Place.TheVariants.{Blocks, Edges, Matrix, Messages, Nodes, Results, Vector}
use Rattle.mining.specs.Flow.{Mining, mining_of, flow, last_of}
use Rattle.mining.specs.Places.{is_sealed}
use Rattle.mining.specs.Table.{edges_for, first_map, first_reduce, id_role, inputs_of, map_role, map_words, matrix_for, matrix_map, matrix_reduce, messages_reduce, numbers_for, numbers_map, over_blocks, reduce_role, reduce_words, vector_reduce}
use Rattle.mining.proofs.Flows.{flow_made, flow_sealed}
use Rattle.flow_core.specs.Following.{Giving}
use Rattle.flow_core.specs.Jobs.{job_by}
use Rattle.flow_block.specs.BlockLayouts.{places_text}
use Rattle.flow_block.specs.Laws.{AreMadeInBlocks}
use Rattle.flow.proofs.Table.{cut_of}
use Rattle.flow.proofs.WordsBack.{with_program}
use Rattle.flow_block.specs.BlockRoles.{BlockWords}
use Rattle.flow_forms.proofs.WordsBack.{block_words}

-- the words of the table, but for those of the role that sends
abbrev pub words_of : Conf → List (List ℕ) → BlockWords
words_of conf sender = record (block_words conf) { block1 = with_program sender }

-- what the table says of a form whose children go over blocks, and of which these words send
pub record GoesByBlocks (conf : Conf) (form : Form) (sender : List (List ℕ)) : Type 0 where
  pub edges_are : edges_for form ≡ Edges
  pub matrix_is : matrix_for form ≡ Blocks
  pub numbers_are : (last : ℕ) → numbers_for form last ≡ Vector last
  pub groups : first_map conf form ≡ codes "group" ∷ decimal conf.block ∷ []
  pub firsts : first_reduce conf form ≡ over_blocks conf (codes "firstb")
  pub sends : messages_reduce conf form ≡ sender
  pub renews : vector_reduce conf form ≡ over_blocks conf (codes "block2")
  pub unblocks : numbers_map conf form ≡ over_blocks conf (codes "unblock")

pub block_goes : (conf : Conf) → GoesByBlocks conf Block (over_blocks conf (codes "block1"))
block_goes conf = record {
  edges_are = refl;
  matrix_is = refl;
  numbers_are = λ last. refl;
  groups = refl;
  firsts = refl;
  sends = refl;
  renews = refl;
  unblocks = refl;
}

abbrev pub diagonal_sender : Conf → List (List ℕ)
diagonal_sender conf = codes "diag1" ∷ decimal conf.nodes ∷ decimal conf.block ∷ []

pub diagonal_goes : (conf : Conf) → GoesByBlocks conf Diagonal (diagonal_sender conf)
diagonal_goes conf = record {
  edges_are = refl;
  matrix_is = refl;
  numbers_are = λ last. refl;
  groups = refl;
  firsts = refl;
  sends = refl;
  renews = refl;
  unblocks = refl;
}

module _ (gives : Giving) (conf : Conf) (form : Form) (is : conf.form ≡ form) (sender : List (List ℕ)) (goes : GoesByBlocks conf form sender) (edges : List Edge) where
  abbrev mined : Mining
  mined = mining_of gives conf edges

  abbrev last : ℕ
  last = unwrap_or (last_of mined) 0

  abbrev words : BlockWords
  words = words_of conf sender

  -- a folder by its words and its inputs
  made_by : (place : Place) (mapper reducer : List (List ℕ)) (inputs : List (List ℕ)) → is_sealed place ≡ false → map_role conf place ≡ mapper → reduce_role conf place ≡ reducer
      → flat_map (flow mined) (inputs_of conf.form last place) ≡ inputs → flow mined place ≡ job_by gives (cut_of conf) (with_program mapper) (with_program reducer) inputs
  unfolding map_words reduce_words
  made_by place mapper reducer inputs job map_is reduce_is inputs_are =
      let cut = cut_of conf in
      let read = flat_map (flow mined) (inputs_of conf.form last place) in
      flow_made mined place job
      ∙ ap (λ (ws : List (List ℕ)). job_by gives cut (with_program ws) (with_program (reduce_role conf place)) read) map_is
      ∙ ap (λ (ws : List (List ℕ)). job_by gives cut (with_program mapper) (with_program ws) read) reduce_is
      ∙ ap (job_by gives cut (with_program mapper) (with_program reducer)) inputs_are

  pub matrix_made : flow mined Matrix ≡ job_by gives (cut_of conf) (with_program (matrix_map conf.command conf.sym)) (with_program (matrix_reduce conf.command)) (text_of edges ∷ [])
  matrix_made =
      made_by Matrix (matrix_map conf.command conf.sym) (matrix_reduce conf.command) (text_of edges ∷ []) refl refl refl
      (ap (λ (place : Place). flow mined place ++ []) (ap edges_for is ∙ goes.edges_are) ∙ append-nil (flow mined Edges) ∙ flow_sealed mined Edges refl)

  pub blocks_made : flow mined Blocks ≡ job_by gives (cut_of conf) words.cut words.blocks (flow mined Matrix)
  blocks_made = made_by Blocks (codes "cut" ∷ decimal conf.block ∷ []) (codes "blocks" ∷ []) (flow mined Matrix) refl refl refl (append-nil (flow mined Matrix))

  first_made : flow mined (Vector 0) ≡ job_by gives (cut_of conf) words.group words.firstb (places_text (λ p. p) conf.nodes ∷ [])
  first_made =
      made_by (Vector 0) (codes "group" ∷ decimal conf.block ∷ []) (over_blocks conf (codes "firstb")) (places_text (λ p. p) conf.nodes ∷ []) refl (ap (first_map conf) is ∙ goes.groups) (ap (first_reduce conf) is ∙ goes.firsts)
      (append-nil (flow mined Nodes) ∙ flow_sealed mined Nodes refl)

  messages_made : (k : ℕ) → flow mined (Messages (suc k)) ≡ job_by gives (cut_of conf) words.copy words.block1 (flow mined Blocks ++ flow mined (Vector k))
  messages_made k =
      made_by (Messages (suc k)) id_role sender (flow mined Blocks ++ flow mined (Vector k)) refl refl (ap (messages_reduce conf) is ∙ goes.sends)
      (ap (λ (place : Place). flow mined place ++ (flow mined (Vector k) ++ [])) (ap matrix_for is ∙ goes.matrix_is) ∙ ap (λ (ts : List (List ℕ)). flow mined Blocks ++ ts) (append-nil (flow mined (Vector k))))

  next_made : (k : ℕ) → flow mined (Vector (suc k)) ≡ job_by gives (cut_of conf) words.copy words.block2 (job_by gives (cut_of conf) words.copy words.block1 (flow mined Blocks ++ flow mined (Vector k)))
  next_made k =
      made_by (Vector (suc k)) id_role (over_blocks conf (codes "block2")) (flow mined (Messages (suc k))) refl refl (ap (vector_reduce conf) is ∙ goes.renews) (append-nil (flow mined (Messages (suc k))))
      ∙ ap (job_by gives (cut_of conf) words.copy words.block2) (messages_made k)

  pub vectors_made : AreMadeInBlocks gives words (cut_of conf) conf.nodes (λ p. p) (flow mined Blocks) (λ k. flow mined (Vector k))
  vectors_made = record { begins = first_made; goes_on = next_made }

  pub result_made : flow mined Results ≡ job_by gives (cut_of conf) words.unblock words.copy (flow mined (Vector last))
  result_made =
      made_by Results (over_blocks conf (codes "unblock")) id_role (flow mined (Vector last)) refl (ap (numbers_map conf) is ∙ goes.unblocks) refl
      (ap (λ (place : Place). flow mined place ++ []) (ap (λ (f : Form). numbers_for f last) is ∙ goes.numbers_are last) ∙ append-nil (flow mined (Vector last)))
