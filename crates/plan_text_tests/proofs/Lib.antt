mod ExprTextExamples
mod LineNodes
mod NodeTextExamples
