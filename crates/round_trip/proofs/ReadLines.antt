-- The lines of a plan that are written are read back, but for those of ops (`ReadOps`). Assumes nothing.
--   clean l                    l has no byte that ends a line
--   header_clean numbered_clean op_clean start_clean   no row has
--   lines_read                 rows, each ended, are the lines of their text
--   behind_read                what stands behind a key is read
--   header_read count_read start_read   a row is read
use mathlib.Core.Bool.{Bool, So, ◌&&◌}
use mathlib.Core.List.{List, [], ◌∷◌, ◌++◌}
use mathlib.Core.Path.{◌≡◌, refl, ap, ◌∙◌}
use Prim.Native.Nat.{ℕ, ◌≤◌}
use Prim.Native.Char.{code}
use native.Mathlib.Omega.{arith}
use borrow.Author.Tests.{leb-true, ltb-true}
use lib.Dec.{leb, ltb}
use lib.ListN.{get_or}
use lib.Seq.{append_snoc, drop-append_seam, take-append_seam}
use Rattle.node.specs.declared.OperandKind.{OperandKind}
use Rattle.node.specs.declared.ProcessNumber.{ProcessNumber}
use Rattle.node.specs.declared.Start.{Start}
use Rattle.node.specs.Lists.{all_of}
use Rattle.node.specs.Ops.{kinds_of, op_words}
use Rattle.node.specs.Texts.{bytes}
use Rattle.rules.specs.Answers.{done}
use Rattle.rules.specs.Behaviours.{Instruction, Operand}
use Rattle.rules.proofs.All.{all_of_join, parts}
use Rattle.text.specs.Numbers.{malformed, no_number, number_of, ranged_of}
use Rattle.text.specs.Parts.{fields_of, last_apart, line_byte, lines_of, line_then, split, starts_with}
use Rattle.text.specs.Writing.{digits, each}
use Rattle.text.proofs.Parts.{equal_self, split_some}
use Rattle.plan_line.specs.Lines.{behind_key, count_line, count_told, header, header_line, header_told, no_start, number, risen, start, start_key, start_line, start_of, start_told}
use Rattle.plan_line.specs.Ops.{worse}
use Rattle.plan_writer.specs.Answers.{start_fits}
use Rattle.plan_writer.specs.Texts.{ended, numbered, operands_text, operand_text, op_row, start_row}
use Rattle.round_trip.proofs.Plain.{digits_plain, field_front, field_whole, free, operand_plain, plain, plain_free, split_front, word_plain}
use Rattle.round_trip.proofs.ReadNumbers.{ranged_read, tested_read}

abbrev pub clean : List ℕ → Bool
clean = free line_byte

plain_clean : (l : List ℕ) → So (plain l) → So (clean l)
plain_clean = plain_free line_byte (omega arith)

-- ---- no row has a byte that ends a line

join_clean : (l r : List ℕ) → So (clean l) → So (clean r) → So (clean (l ++ r))
join_clean = all_of_join _

digits_clean : (n : ℕ) → So (clean (digits n))
digits_clean n = plain_clean (digits n) (digits_plain n)

pub header_clean : So (clean header)
header_clean = refl

pub numbered_clean : (key : List ℕ) (n : ℕ) → So (clean key) → So (clean (numbered key n))
numbered_clean key n h = join_clean key (digits n) h (digits_clean n)

operands_clean : (ks : List OperandKind) (xs : List Operand) → So (clean (operands_text ks xs))
unfolding operands_text
operands_clean [] xs = refl
operands_clean (k ∷ ks) [] = refl
operands_clean (k ∷ ks) (x ∷ xs) = join_clean (operand_text k x) (operands_text ks xs) (plain_clean (operand_text k x) (operand_plain k x)) (operands_clean ks xs)

pub op_clean : (x : Instruction) → So (clean (op_row x))
unfolding op_row
op_clean x =
    let word = get_or op_words x.number [] in
    join_clean word (operands_text (kinds_of x.number) x.operands) (plain_clean word (word_plain x.number)) (operands_clean (kinds_of x.number) x.operands)

pub start_clean : (s : Start) → So (clean (start_row s))
unfolding start_row
start_clean s =
    join_clean (start_key ++ digits s.process.0 ++ bytes ",") (digits s.behaviour.0)
    (join_clean (start_key ++ digits s.process.0) (bytes ",") (digits_clean s.process.0) refl) (digits_clean s.behaviour.0)

-- ---- lines

pub lines_read : (rows : List (List ℕ)) → So (all_of clean rows) → lines_of (each ended rows) ≡ record { whole = rows; rest = [] }
unfolding lines_of last_apart line_then split each
lines_read [] h = refl
lines_read (row ∷ rows) h =
    let w = parts (clean row) (all_of clean rows) h in
    let q = split_some line_byte (each ended rows) in
    let ih = lines_read rows w.1 in
    rw (append_snoc row line_byte (each ended rows), split_front line_byte row (each ended rows) w.0, q.2) (ap (line_then row) (rw q.2 at ih))

-- ---- rows

pub behind_read : {A : Type 0} (key : List ℕ) (wrong : A) (f : List ℕ → A) (l : List ℕ) → behind_key key wrong f (key ++ l) ≡ f l
unfolding starts_with
behind_read key wrong f l = rw (take-append_seam key l, equal_self key, drop-append_seam key l)

pub header_read : header_line header ≡ done 1
unfolding header_line header_told
header_read = rw (equal_self header)

pub count_read : (key : List ℕ) (low high n : ℕ) → low ≤ n → n ≤ high → high ≤ 255 → count_line key low high (numbered key n) ≡ done n
unfolding count_line count_told
count_read key low high n a b h =
    ap number (behind_read key (no_number malformed) (λ l. ranged_of (number_of l) low high) (digits n) ∙ ranged_read n low high a b h)

pub start_read : (c : ℕ) (last : ProcessNumber) (s : Start) → c ≤ 255 → So (start_fits c last.0 s)
    → start_line c last (start_row s) ≡ done (record { refusal = 0; process = s.process; behaviour = s.behaviour })
unfolding start_line start_told start_row start_of risen worse
start_read c last s h f =
    let p = digits s.process.0 in
    let b = digits s.behaviour.0 in
    let w = parts (ltb last.0 s.process.0 && leb s.process.0 16) (leb 1 s.behaviour.0 && leb s.behaviour.0 c) f in
    let x = parts (ltb last.0 s.process.0) (leb s.process.0 16) w.0 in
    let rises = ltb-true last.0 s.process.0 x.0 in
    let process = ranged_read s.process.0 1 16 (omega arith) (leb-true s.process.0 16 x.1) (omega arith) in
    let behaviour = tested_read s.behaviour.0 1 c h w.1 in
    let fields = field_front p (digits_plain s.process.0) b ∙ ap (λ (ls : List (List ℕ)). p ∷ ls) (field_whole b (digits_plain s.behaviour.0)) in
    let told : start_told c last (start_row s) ≡ record { refusal = 0; process = s.process; behaviour = s.behaviour } =
    ap (start_told c last) (append_snoc (start_key ++ p) (code ",") b)
    ∙ behind_read start_key (no_start malformed) (λ l. risen last (start_of c (fields_of l))) (p ++ (code "," ∷ b))
    ∙ rw (fields, process, behaviour, x.0) in
    ap start told
