-- The sections and the lines of a chain bundle, as they are asked. Assumes nothing.
use Prim.Native.Nat.{ℕ}
use mathlib.Core.Path.{◌≡◌, refl, ap₂, ◌∙◌}
use mathlib.Core.List.Memᴰ
use mathlib.Core.List.{List}
use mathlib.Core.Bool.{Bool, true, false, ◌&&◌, and_assoc, and-true}
use Rattle.laws.specs.Lists.{all}
use Rattle.table.specs.Table.{strings}
use Rattle.model.specs.Sections.{chain_header, attributes, rdns, names, usages, certs}
use Rattle.sections.specs.Placed.{chain_sections}
use Rattle.search.specs.declared.Line.{Line}
use Rattle.search.specs.declared.Block.TheVariants.{Header, All}
use Rattle.lines.specs.Tables.{chain_lines}
use Rattle.quick_certs.specs.Asked.{row_fine, rows_fine, lines_of, certs_fine, Lies}
use Rattle.quick.specs.Fine.{all_placed, line_fine, all_fine, chain_fine}
use Rattle.quick.specs.Asked.{string_line, StringsLie}
use Rattle.quick.proofs.Whole.{block_rows, header_rows, others_of, split, placed_in, lies_in}

-- each section lies in the words
module _ (w : List ℕ) (h : all_placed chain_header chain_sections w ≡ true) where
  pub strings_placed : Lies w strings
  strings_placed = lies_in chain_header chain_sections w strings h (Memᴰ.head refl)

  pub strings_lie : (b : List ℕ) → line_fine w b string_line ≡ true → StringsLie w b
  strings_lie b s = (strings_placed, s)

  pub attributes_lie : Lies w attributes
  attributes_lie = lies_in chain_header chain_sections w attributes h (Memᴰ.tail (Memᴰ.head refl))

  pub rdns_lie : Lies w rdns
  rdns_lie = lies_in chain_header chain_sections w rdns h (Memᴰ.tail (Memᴰ.tail (Memᴰ.head refl)))

  pub names_lie : Lies w names
  names_lie = lies_in chain_header chain_sections w names h (Memᴰ.tail (Memᴰ.tail (Memᴰ.tail (Memᴰ.head refl))))

  pub usages_lie : Lies w usages
  usages_lie = lies_in chain_header chain_sections w usages h (Memᴰ.tail (Memᴰ.tail (Memᴰ.tail (Memᴰ.tail (Memᴰ.head refl)))))

-- what is left of the lines after each section
abbrev others1 : List Line
others1 = others_of strings.count chain_lines

abbrev others2 : List Line
others2 = others_of attributes.count others1

abbrev others3 : List Line
others3 = others_of rdns.count others2

abbrev others4 : List Line
others4 = others_of names.count others3

abbrev others5 : List Line
others5 = others_of usages.count others4

module _ (w b : List ℕ) where
  one_line : all (line_fine w b) (lines_of strings.count chain_lines) ≡ line_fine w b string_line
  unfolding all
  one_line = and-true (line_fine w b string_line)

  chain_lines_law : all (line_fine w b) chain_lines ≡ (line_fine w b string_line && (rows_fine w b (lines_of attributes.count chain_lines) (All attributes) && (rows_fine w b (lines_of rdns.count chain_lines) (All rdns) && (rows_fine w b (lines_of names.count chain_lines) (All names) && (rows_fine w b (lines_of usages.count chain_lines) (All usages) && (rows_fine w b (lines_of certs.count chain_lines) (All certs) && row_fine w b (lines_of 0 chain_lines) 0))))))
  chain_lines_law =
      let f = line_fine w b in
      split f strings.count chain_lines ∙ ap₂ ◌&&◌ one_line
      (split f attributes.count others1 ∙ ap₂ ◌&&◌ (block_rows w b (All attributes) (lines_of attributes.count chain_lines) refl)
      (split f rdns.count others2 ∙ ap₂ ◌&&◌ (block_rows w b (All rdns) (lines_of rdns.count chain_lines) refl)
      (split f names.count others3 ∙ ap₂ ◌&&◌ (block_rows w b (All names) (lines_of names.count chain_lines) refl)
      (split f usages.count others4 ∙ ap₂ ◌&&◌ (block_rows w b (All usages) (lines_of usages.count chain_lines) refl)
      (split f certs.count others5 ∙ ap₂ ◌&&◌ (block_rows w b (All certs) (lines_of certs.count chain_lines) refl) (block_rows w b Header (lines_of 0 chain_lines) refl ∙ header_rows w b (lines_of 0 chain_lines)))))))

  -- C, where it is in its place
  certs_placed : all_placed chain_header chain_sections w ≡ true → certs_fine w b ≡ rows_fine w b (lines_of certs.count chain_lines) (All certs)
  unfolding certs_fine
  certs_placed h = rw (placed_in chain_header chain_sections w certs h (Memᴰ.tail (Memᴰ.tail (Memᴰ.tail (Memᴰ.tail (Memᴰ.tail (Memᴰ.head refl))))))) refl

  pub chain_rows : {a r g u c h : Bool} → all_placed chain_header chain_sections w ≡ true → line_fine w b string_line ≡ true → a ≡ rows_fine w b (lines_of attributes.count chain_lines) (All attributes) → r ≡ rows_fine w b (lines_of rdns.count chain_lines) (All rdns) → g ≡ rows_fine w b (lines_of names.count chain_lines) (All names) → u ≡ rows_fine w b (lines_of usages.count chain_lines) (All usages) → c ≡ certs_fine w b → h ≡ row_fine w b (lines_of 0 chain_lines) 0 → (a && r && g && u && c && h) ≡ all (line_fine w b) chain_lines
  chain_rows p s a r g u c h = rw (a, r, g, u, c, h, certs_placed p, chain_lines_law, s) (simp and_assoc refl)

  -- ---- the answers
  module _ {p : Bool} (placed : p ≡ all_placed chain_header chain_sections w) where
    pub chain_unplaced : p ≡ false → false ≡ chain_fine w b
    unfolding all_fine
    chain_unplaced y = rw (← placed, y) refl

    pub chain_out : {s : Bool} → s ≡ line_fine w b string_line → p ≡ true → s ≡ false → false ≡ chain_fine w b
    unfolding all_fine
    chain_out f y z = rw (← placed, y, chain_lines_law, ← f, z) refl

    pub chain_in : {r : Bool} → p ≡ true → r ≡ all (line_fine w b) chain_lines → r ≡ chain_fine w b
    unfolding all_fine
    chain_in y t = t ∙ rw (← placed, y) refl
