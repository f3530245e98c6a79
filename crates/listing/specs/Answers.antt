-- What a call that lists answers, and what it leaves in the lent buffer (document 01, "The three hands", Caller).
--   Listed               what a call that lists tells: the refusal's number and length 0, or the number 0 and the length
--   output_short         document 01's number for a buffer shorter than the listing
--   refused_with k       the answer with a refusal
--   listed_of r          what an answer of the code stands for
--   fitting old text     the length of `text` where the buffer `old` holds it, none where the buffer is shorter
--   told old text       the answer where `text` is to fill the first bytes of the buffer `old`
--   shown old text      the buffer behind that call
--   known_told k old text   the answer where `text` is known to have at most k bytes;  known_shown  the buffer behind it
--   list_told n old      the answer of `list` on node n: 31, 30, or the length
--   list_shown n old     the buffer behind it
use Rattle.std.specs.Prelude.{cond, Option, None, Some, Result, Ok, Err, List, ◌++◌, ℕ, min, ltb, length, drop}
use Rattle.std.proofs.lemmas.List.Edits.{sets}
use Rattle.node.specs.declared.Node.{Node}
use Rattle.node.specs.declared.Refusal.{Refusal}
use Rattle.node.specs.Refusals.{refusal_number}
use Rattle.rules.specs.Answers.{not_sound}
use Rattle.rules.specs.Nodes.{sound}
use Rattle.text.specs.Writing.{top}
use Rattle.listing.specs.Listing.{listing_of}

pub record Listed : Type 0 where
  pub number : ℕ
  pub length : ℕ

-- "30 output shorter than the listing": a buffer as long as the listing is enough
abbrev pub output_short : ℕ
output_short = 30

-- "On 30 and 31 the buffer is unchanged and the length told is 0"
abbrev pub refused_with : ℕ → Listed
refused_with k = record { number = k; length = 0 }

abbrev pub listed_of : Result ℕ Refusal → Listed
listed_of (Ok n) = record { number = 0; length = n }
listed_of (Err r) = refused_with (refusal_number r)

unfoldable pub fitting : List ℕ → List ℕ → Option ℕ
fitting old text = cond (ltb (length old) (length text)) None (Some (length text))

unfoldable pub told : List ℕ → List ℕ → Listed
told old text = cond (ltb (length old) (length text)) (refused_with output_short) (record { number = 0; length = length text })

-- "otherwise the listing fills its first bytes, its length is told and the bytes behind stay"
unfoldable pub shown : List ℕ → List ℕ → List ℕ
shown old text = cond (ltb (length old) (length text)) old (text ++ drop (length text) old)

-- a buffer of k bytes is not compared with the text: of one that is longer all the same, the buffer takes what it has room for
unfoldable pub known_told : ℕ → List ℕ → List ℕ → Listed
known_told k old text = cond (ltb (length old) k) (told old text) (record { number = 0; length = min (length text) top })

unfoldable pub known_shown : ℕ → List ℕ → List ℕ → List ℕ
known_shown k old text = cond (ltb (length old) k) (shown old text) (sets old 0 text)

-- "31 node not sound", before 30
unfoldable pub list_told : Node → List ℕ → Listed
list_told n old = cond (sound n) (told old (listing_of n)) (refused_with not_sound)

unfoldable pub list_shown : Node → List ℕ → List ℕ
list_shown n old = cond (sound n) (shown old (listing_of n)) old
