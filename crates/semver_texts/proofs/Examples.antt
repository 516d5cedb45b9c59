mod PrintExamples
