-- The image's rules and limits: refusal 3 and its place (document 01, "Words", "Answers that end the check"). Definitions.
use Rattle.std.specs.Prelude.{ℕ, ◌*◌, List, [], length, leb, ltb}
use Rattle.std.proofs.Math.Option.{Option}
use Rattle.tok.specs.Text.{Texts}
use Rattle.tok.specs.Step.{Result, ◌>>=◌, return}
use Rattle.tok.specs.Reader.{Cursor, Read, owing, below, many, ends, start, fault_of, most_bytes, unless_long}
use Rattle.ast.specs.Outline.{Outline}
use Rattle.ast.specs.Nodes.{nodes}
use Rattle.ast.specs.TypeRecords.{type_expressions}

-- what refusals 4 to 6 ask of an image
pub record Outlines : Type 0 where
  pub slots : ℕ
  pub roots : List ℕ
  pub nodes : List Outline

-- a count with its limit, and how many words it owes at least
abbrev up_to : (most : ℕ) → (owes : ℕ → ℕ) → Read ℕ
up_to most owes = owing (λ n. leb n most) owes

-- "Image: counts N nodes, T type expressions, R roots, V slots; the roots; node records; type records; nothing after."
-- "Limits: N 2,048; T 512; R 512; V 4,096". "Nodes are below N". A node record has three words at least, a type record two.
unfoldable pub image : Texts → Read Outlines
image t = do
  n ← up_to 2048 (λ k. 3 * k)
  types ← up_to 512 (λ k. 2 * k)
  r ← up_to 512 (λ k. k)
  v ← up_to 4096 (λ _. 0)
  roots ← many r (below n)
  found ← nodes (record { text = t.script; nodes = n; types = types; slots = v }) n 0 []
  _ ← type_expressions (record { text = t.script; nodes = n; types = types; slots = v }) types 0
  _ ← ends
  return (record { slots = v; roots = roots; nodes = found })

-- the outlines, or the first offending word. "a text over its limit comes first, with place 0"
unfoldable pub image_read : Texts → List ℕ → Result Cursor ℕ Outlines
image_read t words = unless_long (ltb most_bytes (length t.script)) (image t (start 4 words))

-- "image or script text likewise"
unfoldable pub image_fault : Texts → List ℕ → Option ℕ
image_fault t words = fault_of (image_read t words)
