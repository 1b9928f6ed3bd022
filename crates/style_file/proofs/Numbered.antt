-- Lines with their numbers. Assumes nothing.
use Rattle.std.proofs.Common.{◌≡◌, ℕ, ◌+◌, ◌<◌, List, length, get_or, drop, Some, None, Option, sym, ap, ◌∙◌, add-one, arith, suc, Ok, Err, Result, refl, subst, Bor, Bool, false, eqb}
use Rattle.std.proofs.lemmas.List.{at_drop_more, at_drop_all}
use Rattle.std.proofs.lemmas.List.FromFn.{length-enumerate_from, get_or-enumerate_from}
use Rattle.std.proofs.lemmas.Iterator.{YieldsList}
use Rattle.std.specs.Iterator.{Yields}
use Rattle.std.proofs.lemmas.Iterator.Consumers.{YieldsList-at, YieldsList-from_enumerate, YieldsList-turn, YieldsList-end}
use Rattle.std.proofs.lemmas.Iterator.Splits.{YieldsList-from_slice_split}
use Rattle.std.specs.Fn.{CalledAt}
use Rattle.std.specs.Iterator.Adapters.{enumerate_source, enumerate_count, enumerate_steps}
use Rattle.std.specs.Slice.Iter.{split_rest, split_done, split_callee, split_steps}
use Rattle.std.specs.declared.iter.Enumerate.{Enumerate}
use Rattle.std.specs.declared.slice.Split.{Split}
use denote.Param.Members.{Mut}
use Rattle.std.specs.List.{enumerate_from}
use Rattle.std.specs.Result.{IsErrAnd}
use Rattle.style_file.specs.declared.file.Fault.{Fault}
use Rattle.style_file.specs.declared.refusal.Refusal.{Refusal}
use Rattle.style_file.specs.declared.refusal.Refusal.TheVariants.{Misplaced, Memory as NoMemory}
use Rattle.style_file.specs.Refusals.{Gives, fault_at}
use Rattle.style_file.specs.Files.{File}
use Rattle.style_file.specs.Read.{Adds}
use Rattle.style_file.specs.Reading.{lines, line_added, going_on}

-- what the loop over the lines of a text goes over; the facts are the clauses of the calls that make the iterator
pub numbered_lines : {F : Type 0} {g : Mut F (Bor ℕ × Unit {0}) Bool} {f : F} {s : Split ℕ F} {e i : Enumerate (Split ℕ F)} (text : List ℕ) → split_rest s ≡ text → split_done s ≡ false → split_callee s ≡ f → enumerate_source e ≡ s → enumerate_count e ≡ 0 → i ≡ e → ((x : ℕ) (b : Bool) (q : F) → CalledAt g f x b q → (q ≡ f) × (b ≡ eqb x 10)) → YieldsList {B = ℕ × List ℕ} (enumerate_steps (split_steps g)) (λ p. (p.0, p.1.now)) i (enumerate_from 0 (lines text))
numbered_lines {g} text rest done closure source count same finds = YieldsList-at same (YieldsList-from_enumerate (YieldsList-at source (YieldsList-from_slice_split g (λ b. eqb b 10) text rest done closure finds)) count)

-- what it gives after n of them: the next line with its number, or that there is none
abbrev pub NextLine : List (List ℕ) → ℕ → Option (ℕ × Bor (List ℕ)) → Type 0
NextLine ls n r =
    ((i : ℕ) (l : Bor (List ℕ)) → r ≡ Some (i, l) → (n < length (enumerate_from 0 ls)) × ◌≡◌ {A = ℕ × List ℕ} (i, l.now) (get_or (enumerate_from 0 ls) n (i, l.now)))
    × (r ≡ None → n ≡ length (enumerate_from 0 ls))

pub next_line : {S : Type 0} {steps : S → Option (ℕ × Bor (List ℕ)) → S → Type 0} {s : S} (ls : List (List ℕ)) → YieldsList {B = ℕ × List ℕ} steps (λ p. (p.0, p.1.now)) s (enumerate_from 0 ls) → (xs : List (ℕ × Bor (List ℕ))) (t u : S) (r : Option (ℕ × Bor (List ℕ))) → Yields steps s xs t → steps t r u → NextLine ls (length xs) r
next_line ls e xs t u r so_far step = (λ i l is. YieldsList-turn e xs t so_far r u (i, l) is step, λ is. (YieldsList-end e xs t so_far r u is step).1)

module _ (ls : List (List ℕ)) (n i : ℕ) (l : List ℕ) (turn : (n < length (enumerate_from 0 ls)) × ◌≡◌ {A = ℕ × List ℕ} (i, l) (get_or (enumerate_from 0 ls) n (i, l))) where
  within : n < length ls
  within = omega (arith, turn.0, length-enumerate_from 0 ls)

  numbered : ◌≡◌ {A = ℕ × List ℕ} (i, l) (0 + n, get_or ls n l)
  numbered = turn.1 ∙ get_or-enumerate_from 0 ls n (i, l) within

  pub number_is : i ≡ n
  number_is = omega (arith, ap (λ (p : ℕ × List ℕ). p.0) numbered)

  -- one line is read
  pub line_read : (f : File) (o : Option File) → o ≡ line_added f l → going_on (n + 1) o (drop (n + 1) ls) ≡ going_on n (Some f) (drop n ls)
  line_read f o e =
      let same : l ≡ get_or ls n l = ap (λ (p : ℕ × List ℕ). p.1) numbered in
      ap (λ m. going_on m o (drop (n + 1) ls)) (add-one n)
      ∙ ap (λ x. going_on (suc n) x (drop (n + 1) ls)) (e ∙ ap (line_added f) same)
      ∙ sym (at_drop_more (going_on n (Some f)) ls n l within)

  -- one line is refused
  pub line_refused : (f : File) (g : Unit {0} → File) (x : Result File ℕ) (after : File) (r : Result (Unit {0}) Fault) (a : Result (Unit {0}) Refusal) → IsErrAnd a (λ w. r ≡ Err (fault_at w (i + 1))) → Gives g a (line_added f l) → going_on n (Some f) (drop n ls) ≡ x → Adds x after r
  line_refused f g x after r (Ok u) e h y = absurd e
  line_refused f g x after r (Err Misplaced) e h y =
      let told : ◌≡◌ {A = Result File ℕ} (Err (n + 1)) x = line_read f None (h refl) ∙ y in
      let number : ◌≡◌ {A = Result File ℕ} (Err (i + 1)) (Err (n + 1)) = ap (λ k. Err (k + 1)) number_is in
      subst (Adds x after) (sym e) (sym (number ∙ told))
  line_refused f g x after r (Err NoMemory) e h y = subst (Adds x after) (sym e) tt

pub all_read : (ls : List (List ℕ)) (n : ℕ) (f : File) → n ≡ length (enumerate_from 0 ls) → going_on n (Some f) (drop n ls) ≡ Ok f
all_read ls n f e = at_drop_all (going_on n (Some f)) ls n (omega (arith, length-enumerate_from 0 ls))
