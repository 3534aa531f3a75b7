mod KindExamples
