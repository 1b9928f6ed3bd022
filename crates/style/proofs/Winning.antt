-- A cell that declarations enter one after the other holds the cascade's winner. Assumes nothing.
use Rattle.std.proofs.Common.{◌≡◌, true, false, cond, List, [], ◌∷◌, ◌++◌, sym, refl, ap, ◌∙◌, subst, ⊎_elim, append_assoc, append-nil}
use Rattle.std.proofs.lemmas.Bool.{cases_Bool}
use Rattle.std.proofs.lemmas.List.Elements.{All-nil, All-cons, All-append, All-push, All-weaker, All-same}
use Rattle.style.specs.declared.cell.Declaration.{Declaration}
use Rattle.style.specs.declared.cell.WithSpec.{WithSpec}
use Rattle.style.specs.Cascade.{below, Wins, empty, holding, all_entered, HoldsWinner}
use Rattle.style.proofs.Orders.{below_onward, below_one_way}

module _ {T : Type 0} where
  -- one more declaration, which the winner outranks
  keeps : (ds : List (Declaration T)) (w d : Declaration T) → Wins ds w → below d.weight w.weight ≡ true → Wins (ds ++ (d ∷ [])) w
  keeps ds w d h b =
      let earlier = h.0 in
      let later = h.1 in
      (earlier, later ++ (d ∷ []), ap (λ x. x ++ (d ∷ [])) h.2 ∙ append_assoc earlier (w ∷ later) (d ∷ []), h.3, All-push (λ e. below e.weight w.weight ≡ true) later d h.4 b)

  -- or which it does not
  yields : (ds : List (Declaration T)) (w d : Declaration T) → Wins ds w → below d.weight w.weight ≡ false → Wins (ds ++ (d ∷ [])) d
  yields ds w d h b =
      let P : Declaration T → Type 0 = λ e. below d.weight e.weight ≡ false in
      let front = All-weaker _ P (λ e n. below_onward e.weight w.weight d.weight n b) h.0 h.3 in
      let back = All-weaker _ P (λ e n. below_onward e.weight w.weight d.weight (below_one_way e.weight w.weight n) b) h.1 h.4 in
      (ds, [], refl, All-same P ds (h.0 ++ (w ∷ h.1)) h.2 (All-append P h.0 (w ∷ h.1) front (All-cons P w h.1 b back)), All-nil _)

  -- a cell that holds the winner of some declarations, and then more enter it
  goes_on : (ds es : List (Declaration T)) (w : Declaration T) → Wins ds w → (x : Declaration T) × Wins (ds ++ es) x × (all_entered (holding w) es ≡ holding x)
  goes_on ds [] w h = (w, subst (λ l. Wins l w) (sym (append-nil ds)) h, refl)
  goes_on ds (d ∷ es) w h =
      let join : (ds ++ (d ∷ [])) ++ es ≡ ds ++ (d ∷ es) = append_assoc ds (d ∷ []) es in
      ⊎_elim
      (λ t. let r = goes_on (ds ++ (d ∷ [])) es w (keeps ds w d h t) in
      (r.0, subst (λ l. Wins l r.0) join r.1, ap (λ b. all_entered (cond b (holding w) (holding d)) es) t ∙ r.2))
      (λ f. let r = goes_on (ds ++ (d ∷ [])) es d (yields ds w d h f) in
      (r.0, subst (λ l. Wins l r.0) join r.1, ap (λ b. all_entered (cond b (holding w) (holding d)) es) f ∙ r.2))
      (cases_Bool (below d.weight w.weight))

  winner : (ds : List (Declaration T)) → HoldsWinner ds (all_entered empty ds)
  winner [] = refl
  winner (d ∷ ds) = goes_on (d ∷ []) ds d ([], [], refl, All-nil _, All-nil _)

  pub holds_winner : (ds : List (Declaration T)) (c : WithSpec T) → c ≡ all_entered empty ds → HoldsWinner ds c
  holds_winner ds c h = subst (HoldsWinner ds) (sym h) (winner ds)
