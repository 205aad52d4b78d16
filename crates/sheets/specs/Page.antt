-- What stands around the tables of a page: its head with the style, and its foot. No script, and nothing from elsewhere.
use Rattle.std.specs.Prelude.{ℕ, List, ◌++◌}
use Rattle.text.specs.Text.{text}

abbrev pub page_head : List ℕ
page_head =
    text "<!DOCTYPE html>\n<html lang=en>\n<head>\n<meta charset=utf-8>\n<title>Handover sheet</title>\n<style>\n"
    ++ text "@page { size: A4 landscape; margin: 12mm }\nbody { font: 9pt/1.3 sans-serif; color: black; background: white; margin: 0 }\n"
    ++ text "@media screen { body { margin: 1em } }\nh1 { font-size: 14pt; margin: 0 0 6pt }\n"
    ++ text "h2 { font-size: 10.5pt; margin: 10pt 0 3pt; break-after: avoid }\ntable { border-collapse: collapse }\n"
    ++ text "th, td { border: 0.5pt solid gray; padding: 1pt 4pt; text-align: left; vertical-align: top }\nth { background: gainsboro }\n"
    ++ text ".n { text-align: right; font-variant-numeric: tabular-nums; white-space: nowrap }\ntr { break-inside: avoid }\n</style>\n</head>\n"
    ++ text "<body>\n"

abbrev pub page_foot : List ℕ
page_foot =
    text "</body>\n</html>\n"
