-- Words as numbers, by which the code looks a word up and writes it.
--   is_letter b     b is a small letter
--   is_word w       w is made of at most nine small letters, as every word of a plan is
--   packed w       the letters of w as digits in base 32, a being 1, the first of them the lowest, with a 1 behind the last
--   word_number w   the number of a word; none for a text that is no word
--   letters n      the text that has the number n; letters_in f n  is bounded by f, at least n
--   place_of k ks   which of the numbers ks is k, from 0; how many there are, where none is
--   found k n       the place k among n, as an answer: none where it is past them
use Rattle.std.specs.Prelude.{Bool, ◌&&◌, cond, List, [], ◌∷◌, ℕ, zero, suc, ◌+◌, ◌-◌, ◌*◌, ◌/◌, ◌%◌, eqb, leb, ltb, length, Option, Some, None}
use Rattle.node.specs.Lists.{all_of}

abbrev pub is_letter : ℕ → Bool
is_letter b = leb 97 b && leb b 122

abbrev pub is_word : List ℕ → Bool
is_word w = leb (length w) 9 && all_of is_letter w

unfoldable pub packed : List ℕ → ℕ
packed [] = 1
packed (b ∷ l) = (b - 96) + 32 * packed l

unfoldable pub word_number : List ℕ → Option ℕ
word_number w = cond (is_word w) (Some (packed w)) None

unfoldable pub letters_in : ℕ → ℕ → List ℕ
letters_in zero n = []
letters_in (suc f) n = cond (leb n 1) [] ((96 + n % 32) ∷ letters_in f (n / 32))

unfoldable pub letters : ℕ → List ℕ
letters n = letters_in n n

unfoldable pub place_of : ℕ → List ℕ → ℕ
place_of k [] = 0
place_of k (j ∷ js) = cond (eqb k j) 0 (suc (place_of k js))

abbrev pub found : ℕ → ℕ → Option ℕ
found k n = cond (ltb k n) (Some k) None
