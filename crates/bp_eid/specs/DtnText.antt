-- Texts of the dtn scheme: RFC 9171, section 4.2.5.1.1. Every byte after the two slashes is a visible character (VCHAR in
-- RFC 5234, appendix B.1). This profile's are the limit on the length, that a node name has any visible characters but
-- slashes, that no slash need follow it, and that slashes alone are no text.
use Rattle.std.specs.Prelude.{ℕ, Bool, not, ◌==◌, ◌&&◌, nat_le, IsTrue, List, [], ◌∷◌, length, drop}
use Rattle.std.specs.List.{list_any, list_all, starts_with, before_first}

abbrev pub slash : ℕ
slash = 47

-- a visible character: 0x21 to 0x7e
abbrev pub is_visible : ℕ → Bool
is_visible b = nat_le 33 b && nat_le b 126

-- The text after `dtn:`. It has at most 1,024 bytes, all visible, begins with two slashes, and has a byte after these that
-- isn't a slash.
unfoldable pub is_dtn_text : List ℕ → Bool
is_dtn_text text =
    nat_le (length text) 1024
    && (list_all is_visible text
    && (starts_with ◌==◌ text (slash ∷ slash ∷ [])
    && list_any (λ b. not (b == slash)) (drop 2 text)))

abbrev pub IsDtnText : List ℕ → Type 0
IsDtnText text = IsTrue (is_dtn_text text)

-- what stands after the two slashes up to the next one, or the end
abbrev pub node_name : List ℕ → List ℕ
node_name text = before_first (λ b. b == slash) (drop 2 text)
