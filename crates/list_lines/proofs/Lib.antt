mod Indents
