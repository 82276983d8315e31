-- A script may put an op for which no record has room.
use Rattle.std.proofs.Common.{◌≡◌, ℕ, zero, suc, ◌+◌, ◌<◌, ◌≤◌, true, List, [], ◌∷◌, ◌++◌, length, Some, refl, sym, ◌∙◌, subst, arith}
use Rattle.std.specs.Prelude.{◌&&◌, replicate, slice_get}
use Rattle.std.specs.List.{list_all}
use Rattle.std.specs.Fmt.{digits}
use Rattle.std.specs.Int.{w16, to_be_bytes}
use Rattle.std.proofs.lemmas.List.{length-append, length-replicate}
use Rattle.std.proofs.lemmas.Bool.Decides.{nat_tests}
use Rattle.tg_codec.proofs.Laws.{both}
use Rattle.tg_kind.specs.Texts.{IsText, text_format, is_letter, fits_letters}
use Rattle.tg_map.specs.Maps as maps
use Rattle.tg_map.specs.declared.map.MapOp.TheVariants.{Set}
use Rattle.tg_model.specs.declared.command.Command.TheVariants as cmd
use Rattle.tg_model.specs.declared.command.Event.TheVariants as event
use Rattle.tg_protocol.specs.Runs.{LawfulCommand}
use Rattle.tg_any.specs.AllKinds.{all_kinds}
use Rattle.tg_any.specs.Anys as any
use Rattle.tg_any.specs.declared.any.AnyOp.TheVariants as ops
use Rattle.tg_script.specs.Lines.{line_fits}
use Rattle.tg_script.specs.declared.line.Line.{Line}
use Rattle.tg_script.specs.declared.line.Line.TheVariants as line
use Rattle.tg_replay.specs.Runs.{IsLine, IsScript, MayCome, front, world_of, line_text}
use Rattle.tg_law_programs.specs.Scripts.Long.{a_map, cluster, letters, long_op, long_put, puts_long}

abbrev put_of : List ℕ → Line
put_of s = line.Event (event.Command 0 (cmd.Put a_map (ops.Map (Set s s))))

all_letters : (n : ℕ) → list_all is_letter (replicate n 97) ≡ true
all_letters zero = refl
all_letters (suc n) = all_letters n

text_fits : (n : ℕ) → 1 ≤ n → n ≤ 4096 → IsText (replicate n 97)
text_fits n some few =
    let long : length {A = ℕ} (replicate n 97) ≡ n = length-replicate {A = ℕ} n 97 in
    sym (fits_letters (replicate n 97) (omega (arith, long, some)) (omega (arith, long, few))) ∙ all_letters n

line_fit : (s : List ℕ) → IsText s → line_fits cluster (put_of s) ≡ true
line_fit s e = both (text_format.fits s && text_format.fits s) true (both (text_format.fits s) (text_format.fits s) e e) refl

line_short : (s : List ℕ) → length s ≡ 4000 → length (line_text (put_of s)) ≤ 8192
unfolding digits
line_short s e = let a = length-append s (32 ∷ s) in omega (arith, a, e)

op_long : (s : List ℕ) → length s ≡ 4000 → 4096 < length (all_kinds.spell (ops.Map (Set s s)))
unfolding any.spelled maps.op_format
op_long s e =
    let a = length-append (text_format.spell s) (text_format.spell s) in
    let b = length-append (to_be_bytes w16 (length s)) s in
    omega (arith, a, b, e)

four_thousand : length letters ≡ 4000
four_thousand = length-replicate {A = ℕ} 4000 97

is_long_line : IsLine cluster (put_of letters)
is_long_line = record { fits = line_fit letters (text_fits 4000 (omega arith) (omega arith)); short = line_short letters four_thousand }

first_of_one : (P : Line → Type 0) (x : Line) → P x → (k : ℕ) (l : Line) → slice_get (x ∷ []) k ≡ Some l → P l
first_of_one P x h zero l e = let same : x ≡ l = cc in subst P same h
first_of_one P x h (suc k) l e = absurd cc

pub long_script : IsScript puts_long
long_script = record {
  header = refl;
  each = λ k l e. first_of_one (IsLine cluster) (put_of letters) is_long_line k l e;
  comes = λ k l e. first_of_one (λ (x : Line). MayCome (world_of (front k puts_long)) x) (put_of letters) tt k l e;
}

pub op_is_long : 4096 < length (all_kinds.spell long_op)
op_is_long = op_long letters four_thousand

not_both : (n : ℕ) → 4096 < n → n ≤ 4096 → ⊥
not_both n more few = omega (arith, more, few)

pub long_lawful : LawfulCommand all_kinds long_put
long_lawful = (refl, λ allowed short. absurd (not_both _ op_is_long short))
