-- The cells of a style, one after another. Assumes nothing.
use Rattle.std.proofs.Common.{◌≡◌, ℕ, suc, ◌+◌, ◌<◌, ◌≤◌, Bool, true, cond, ◌||◌, List, [], ◌++◌, length, map, get_or, drop, is_some, Some, codes, sym, ap, ◌∙◌, append_assoc, add-one, drop-cons}
use Rattle.std.specs.Option.{option_map, unwrap_or}
use Rattle.std.proofs.Math.Bool.{or-true}
use Rattle.style.specs.declared.cell.Declaration.{Declaration}
use Rattle.style.specs.Cascade.{no_weight}
use Rattle.std.proofs.lemmas.List.{drop_all}
use Rattle.bench.specs.declared.cells.Cell.{Cell as Named}
use Rattle.bench.specs.declared.cells.Value.{Value}
use Rattle.bench.specs.Cells.{weight_text, cell_text, cells_text}
use Rattle.bench.specs.Values.{value_text, as_cell}

-- told says what is written up to a place, and what is still to come
module _ (any : Bool) (cs : List Named) (i : ℕ) (text all : List ℕ) (told : text ++ cells_text any (map as_cell (drop i cs)) ≡ all) where
  -- a cell that has a value is added
  pub one_more : (d : Named) (v : Declaration Value) (comma : List ℕ) → i < length cs → (get_or cs i d).won ≡ Some v → comma ≡ cond any (codes ",") []
      → (text ++ (comma ++ ((get_or cs i d).name.now ++ (codes "=" ++ (value_text v.value ++ weight_text v.weight))))) ++ cells_text true (map as_cell (drop (i + 1) cs)) ≡ all
  one_more d v comma l h e =
      let c = get_or cs i d in
      let after = map as_cell (drop (suc i) cs) in
      let name = c.name.now in
      let here = name ++ (codes "=" ++ (value_text v.value ++ weight_text v.weight)) in
      ap (λ n. (text ++ (comma ++ here)) ++ cells_text true (map as_cell (drop n cs))) (add-one i)
      ∙ append_assoc text (comma ++ here) (cells_text true after)
      ∙ ap (λ xs. text ++ ((xs ++ here) ++ cells_text true after)) e
      ∙ ap (λ b. text ++ (cell_text any name (Some (value_text v.value)) v.weight ++ cells_text b after)) (sym (or-true any))
      ∙ ap (λ x. text ++ (cell_text any name (option_map (λ e. value_text e.value) x) (unwrap_or (option_map (λ e. e.weight) x) no_weight) ++ cells_text (any || is_some (option_map (λ e. value_text e.value) x)) after)) (sym h)
      ∙ ap (λ xs. text ++ cells_text any (map as_cell xs)) (sym (drop-cons cs i d l))
      ∙ told

  -- none is left
  pub none_left : (b : Bool) → any ≡ b → length cs ≤ i → text ++ cond b [] (codes "-") ≡ all
  none_left b e l = ap (λ t. text ++ cond t [] (codes "-")) (sym e) ∙ ap (λ xs. text ++ cells_text any (map as_cell xs)) (sym (drop_all i cs l)) ∙ told
