-- Parts of a text, which is a list of bytes: places, lines, fields and words.
--   line_byte          the byte that ends each line
--   before c l        how many bytes of l stand before its first c; all of them, where it has no c
--   place_from c n l   the first place of c in l at or after place n; the length of l, where there is none
--   in_front t b ps    parts with a byte b in front, which is a cut where t holds
--   split c l         the parts of l between its bytes c, one more than it has c
--   fields_of line     the fields of a line, between its commas; the empty line has one field, the empty one
--   Lines             whole lines, each without its byte 10, and the rest, what stands behind the last byte 10
--   line_then line ls  lines with one in front
--   last_apart ps      parts as lines, the last one being the rest
--   lines_of text      the lines of a text; its rest is empty exactly where no last line lacks its byte 10
--   equal k l         k and l are the same text
--   starts_with k l    l starts with k
--   index_of w ws      which of the words ws is w, from 0; how many there are, where none is
use Rattle.std.specs.Prelude.{Bool, true, false, ◌&&◌, cond, List, [], ◌∷◌, ℕ, suc, ◌+◌, min, eqb, length, take, drop}
use Prim.Native.Char.{code}

abbrev pub line_byte : ℕ
line_byte = code "\n"

unfoldable pub before : ℕ → List ℕ → ℕ
before c [] = 0
before c (b ∷ l) = cond (eqb b c) 0 (suc (before c l))

unfoldable pub place_from : ℕ → ℕ → List ℕ → ℕ
place_from c n l = min (n + before c (drop n l)) (length l)

unfoldable pub in_front : Bool → ℕ → List (List ℕ) → List (List ℕ)
in_front true b ps = [] ∷ ps
in_front false b [] = (b ∷ []) ∷ []
in_front false b (p ∷ ps) = (b ∷ p) ∷ ps

unfoldable pub split : ℕ → List ℕ → List (List ℕ)
split c [] = [] ∷ []
split c (b ∷ l) = in_front (eqb b c) b (split c l)

unfoldable pub fields_of : List ℕ → List (List ℕ)
fields_of line = split (code ",") line

pub record Lines : Type 0 where
  pub whole : List (List ℕ)
  pub rest : List ℕ

unfoldable pub line_then : List ℕ → Lines → Lines
line_then line ls = record { whole = line ∷ ls.whole; rest = ls.rest }

unfoldable pub last_apart : List (List ℕ) → Lines
last_apart [] = record { whole = []; rest = [] }
last_apart (p ∷ []) = record { whole = []; rest = p }
last_apart (p ∷ q ∷ ps) = line_then p (last_apart (q ∷ ps))

unfoldable pub lines_of : List ℕ → Lines
lines_of text = last_apart (split line_byte text)

unfoldable pub equal : List ℕ → List ℕ → Bool
equal [] [] = true
equal [] (b ∷ l) = false
equal (a ∷ k) [] = false
equal (a ∷ k) (b ∷ l) = eqb a b && equal k l

unfoldable pub starts_with : List ℕ → List ℕ → Bool
starts_with k l = equal k (take (length k) l)

unfoldable pub index_of : List ℕ → List (List ℕ) → ℕ
index_of w [] = 0
index_of w (p ∷ ps) = cond (equal p w) 0 (suc (index_of w ps))
