-- A page: bytes, and where the next one goes. What is put on a page that is full is lost, so a text that does not fit is cut at the page's
-- end.
use Rattle.std.specs.Prelude.{ℕ, ◌+◌, ◌≤◌, cond, ◌≡◌, List, [], ◌∷◌, ◌++◌, eqb, ltb, length, take, drop, set}
use Rattle.definition_log.specs.meaning.ReadBack.{Log}
use Rattle.listing.specs.meaning.Listing.{listing, refusal_line}
use Rattle.listing.specs.declared.page.Page.{Page}

-- what is printed for an answer of lowering and the log that it left
abbrev pub answer_text : ℕ → ℕ → Log → List ℕ
answer_text number returned log = cond (eqb number 0) (listing log) (refusal_line number returned)

abbrev pub page_at : List ℕ → ℕ → Page
page_at bytes at = record { bytes = bytes; at = at }

unfoldable pub put_byte : ℕ → Page → Page
put_byte b p = cond (ltb p.at (length p.bytes)) (page_at (set p.bytes p.at b) (p.at + 1)) p

unfoldable pub put : List ℕ → Page → Page
put [] p = p
put (b ∷ s) p = put s (put_byte b p)

-- a text put on a page
pub record Puts (text : List ℕ) (before after : Page) : Type 0 where
  pub gives : after ≡ put text before

-- a page that held `bytes` with a text at its start: the text is cut at the page's end, and what is behind the text stays
unfoldable pub filled : List ℕ → List ℕ → Page
filled bytes text = page_at (take (length bytes) text ++ drop (length text) bytes) (length (take (length bytes) text))

-- the first n bytes of a list: it has as many. The second part follows from the first.
abbrev pub IsPrefixLen : ℕ → List ℕ → Type 0
IsPrefixLen n xs = (n ≤ length xs) × (n ≡ length (take n xs))
